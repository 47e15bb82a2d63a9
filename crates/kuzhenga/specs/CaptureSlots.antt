-- How a capture, a file and a line lie in slots. Added: document 01 asks for calls from C.
-- Assumes nothing.
use Rattle.std.specs.Prelude.{ℕ, List, [], ◌∷◌, length}
use Rattle.dshot_spec.specs.Packet.{flag}
use Rattle.capture_file.specs.File.{Capture}
use Rattle.capture_file.specs.Line.{padded}
use Rattle.kuzhenga.specs.Slots.{one}

-- what a file holds besides its samples, in three slots: the number of samples, the mask and EDT
abbrev pub capture_slots : Capture → List ℕ
capture_slots c = length c.samples ∷ c.mask ∷ flag c.edt ∷ []

-- the number of bytes of a file or a line, in one slot
abbrev pub count_slot : List ℕ → List ℕ
count_slot bytes = one (length bytes)

-- a line in 32 bytes, with zeros after it
abbrev pub line_bytes : List ℕ → List ℕ
line_bytes line = (padded line).bytes
