-- Files of a few bytes, read by computing: well formed ones, and each way in which bytes are not well formed.
-- Assumes nothing.
use mathlib.Core.Path.{◌≡◌, refl}
use mathlib.Core.Bool.{true, false}
use mathlib.Core.List.{List, [], ◌∷◌}
use Prim.Native.Nat.{ℕ}
use lib.ListN.{replicate}
use Rattle.dshot_reply_spec.specs.Answer.{Answer, given, refused}
use Rattle.dshot_reply_spec.specs.Refusals.{not_acapture}
use Rattle.capture_file.specs.Groups.{groups, read_number}
use Rattle.capture_file.specs.File.{Capture, capture, file_of, read_head, read_file}

-- bytes, and what they read as
pub record Example : Type 0 where
  pub bytes : List ℕ
  pub answer : Answer Capture

abbrev reads : List ℕ → Capture → Example
reads bs c = record { bytes = bs; answer = given c }

abbrev refuses : List ℕ → Example
refuses bs = record { bytes = bs; answer = refused not_acapture }

abbrev pub Holds : List Example → Type 0
Holds [] = Unit {0}
Holds (x ∷ xs) = (read_file x.bytes ≡ x.answer) × Holds xs

-- ---- well formed

abbrev pub well_formed : List Example
well_formed =
    -- no sample
    reads (0x00 ∷ 0x01 ∷ 0x00 ∷ []) (capture 1 false [])
    -- the mask 65535 in three groups, EDT on
    ∷ reads (0x00 ∷ 0xff ∷ 0xff ∷ 0x03 ∷ 0x01 ∷ []) (capture 65535 true [])
    -- samples of one, two and three groups, each the least and the largest
    ∷ reads (0x02 ∷ 0x00 ∷ 0x00 ∷ 0x00 ∷ 0x7f ∷ []) (capture 0 false (0 ∷ 127 ∷ []))
    ∷ reads (0x02 ∷ 0x00 ∷ 0x00 ∷ 0x80 ∷ 0x01 ∷ 0xff ∷ 0x7f ∷ []) (capture 0 false (128 ∷ 16383 ∷ []))
    ∷ reads (0x02 ∷ 0x00 ∷ 0x00 ∷ 0x80 ∷ 0x80 ∷ 0x01 ∷ 0xff ∷ 0xff ∷ 0x03 ∷ []) (capture 0 false (16384 ∷ 65535 ∷ []))
    ∷ []

pub well-formed : Holds well_formed
unfolding read_file read_head read_number
well-formed = (refl, (refl, (refl, (refl, (refl, tt)))))

-- ---- not well formed

abbrev pub not_well_formed : List Example
not_well_formed =
    -- empty; cut off before the mask, before EDT, within a number
    refuses []
    ∷ refuses (0x00 ∷ [])
    ∷ refuses (0x00 ∷ 0x01 ∷ [])
    ∷ refuses (0x00 ∷ 0x80 ∷ [])
    -- 0 in two groups, 1 in two and in three
    ∷ refuses (0x80 ∷ 0x00 ∷ 0x01 ∷ 0x00 ∷ [])
    ∷ refuses (0x00 ∷ 0x81 ∷ 0x00 ∷ 0x00 ∷ [])
    ∷ refuses (0x00 ∷ 0x81 ∷ 0x80 ∷ 0x00 ∷ 0x00 ∷ [])
    -- 65536 in three groups, and four groups
    ∷ refuses (0x00 ∷ 0x80 ∷ 0x80 ∷ 0x04 ∷ 0x00 ∷ [])
    ∷ refuses (0x00 ∷ 0x80 ∷ 0x80 ∷ 0x80 ∷ 0x01 ∷ 0x00 ∷ [])
    -- a count of 4097, an EDT of 2
    ∷ refuses (0x81 ∷ 0x20 ∷ 0x01 ∷ 0x00 ∷ [])
    ∷ refuses (0x00 ∷ 0x01 ∷ 0x02 ∷ [])
    -- a sample too few, a byte too many
    ∷ refuses (0x02 ∷ 0x01 ∷ 0x00 ∷ 0x07 ∷ [])
    ∷ refuses (0x01 ∷ 0x01 ∷ 0x00 ∷ 0x07 ∷ 0x00 ∷ [])
    ∷ []

pub not-well-formed : Holds not_well_formed
unfolding read_file read_head read_number
not-well-formed = (refl, (refl, (refl, (refl, (refl, (refl, (refl, (refl, (refl, (refl, (refl, (refl, (refl, tt)))))))))))))

-- 4097 samples, all there
pub one-too-many : read_file (0x81 ∷ 0x20 ∷ 0x01 ∷ 0x00 ∷ replicate 4097 0) ≡ refused not_acapture
unfolding read_file read_head read_number
one-too-many = refl

-- ---- written

pub a-file : file_of (capture 0x0200 true (0 ∷ 512 ∷ 65535 ∷ [])) ≡ 0x03 ∷ 0x80 ∷ 0x04 ∷ 0x01 ∷ 0x00 ∷ 0x80 ∷ 0x04 ∷ 0xff ∷ 0xff ∷ 0x03 ∷ []
unfolding file_of groups
a-file = refl
