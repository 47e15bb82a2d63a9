-- A capture file, which document 01 adds: the count of samples, the pin mask, EDT, and then the samples.
-- Assumes nothing.
use Rattle.std.specs.Prelude.{ℕ, ◌≤◌, Bool, List, [], ◌∷◌, ◌++◌, eqb, ltb, length, drop, if◌then◌else◌}
use Rattle.dshot_reply_spec.specs.Answer.{Answer, given, refused, and_then}
use Rattle.dshot_reply_spec.specs.Refusals.{not_acapture, wrong_length}
use Rattle.capture_file.specs.Groups.{groups, read_number, read_all}

-- the most samples of a file, and the most bytes of a file
abbrev pub file_samples : ℕ
file_samples = 4096

abbrev pub file_bytes : ℕ
file_bytes = 12294

pub record Capture : Type 0 where
  pub mask : ℕ
  pub edt : Bool
  pub samples : List ℕ

abbrev pub capture : ℕ → Bool → List ℕ → Capture
capture m e xs = record { mask = m; edt = e; samples = xs }

-- Each number of a list is at most n.
abbrev pub UpTo : ℕ → List ℕ → Type 0
UpTo n [] = Unit {0}
UpTo n (x ∷ xs) = (x ≤ n) × UpTo n xs

-- A file can hold this capture.
pub record Valid (c : Capture) : Type 0 where
  pub pins : c.mask ≤ 65535
  pub count : length c.samples ≤ file_samples
  pub each : UpTo 65535 c.samples

-- the groups of each number of a list
abbrev pub all_groups : List ℕ → List ℕ
all_groups [] = []
all_groups (x ∷ xs) = groups x ++ all_groups xs

-- the bytes of a file
unfoldable pub file_of : Capture → List ℕ
file_of c = groups (length c.samples) ++ (groups c.mask ++ (groups (if c.edt then 1 else 0) ++ all_groups c.samples))

-- what stands before the samples of a file, with the bytes after it
pub record Head : Type 0 where
  pub count : ℕ
  pub mask : ℕ
  pub edt : Bool
  pub rest : List ℕ

unfoldable pub read_head : List ℕ → Answer Head
read_head bytes =
    and_then (read_number bytes) (λ count.
    and_then (read_number count.rest) (λ mask.
    and_then (read_number mask.rest) (λ edt.
    if ltb file_samples count.number then refused not_acapture else
    if ltb 1 edt.number then refused not_acapture else
    given (record { count = count.number; mask = mask.number; edt = eqb edt.number 1; rest = edt.rest }))))

-- the capture in a file; if the bytes are no file, the refusal is 17 (not a capture)
unfoldable pub read_file : List ℕ → Answer Capture
read_file bytes =
    and_then (read_head bytes) (λ h.
    and_then (read_all h.count h.rest) (λ xs.
    given (capture h.mask h.edt xs)))

-- ---- the two calls

-- a buffer whose first slots hold a list; the other slots stay
abbrev pub front : List ℕ → List ℕ → List ℕ
front out xs = xs ++ drop (length xs) out

-- slots with the samples of a capture
abbrev pub slots_of : List ℕ → Capture → List ℕ
slots_of slots c = front slots c.samples

-- A file is read into slots. If there are not 4096 slots, the refusal is 13 (wrong length).
unfoldable pub read_into : List ℕ → List ℕ → Answer Capture
read_into bytes slots = if eqb (length slots) file_samples then read_file bytes else refused wrong_length

-- The bytes of a capture, for a buffer with room for every file. If there are too many samples, or not 12294 bytes, the refusal is 13 (wrong length).
unfoldable pub written_into : Capture → List ℕ → Answer (List ℕ)
written_into c out =
    if ltb file_samples (length c.samples) then refused wrong_length else
    if eqb (length out) file_bytes then given (file_of c) else
    refused wrong_length

-- what the reader answers besides the samples
pub record Told : Type 0 where
  pub count : ℕ
  pub mask : ℕ
  pub edt : Bool

abbrev pub told : Capture → Answer Told
told c = given (record { count = length c.samples; mask = c.mask; edt = c.edt })

-- what the writer answers: how many bytes the file has
abbrev pub byte_count : List ℕ → Answer ℕ
byte_count bytes = given (length bytes)
