-- The duties that a packet is sent as, the highest bit first, and what a sequence of duties says.
-- Stands for `encode_packet` and `encode_compare_sequence` of crates/ferrowasp-output/src/dshot.rs (Eirik2020/ferro-wasp, commit 9cb8aca1a6,
-- Copyright (c) 2026 Kaldstrand, Apache-2.0), changed: rewritten as definitions. Document 01 adds the reader and the refusal of a buffer of another
-- length.
-- Assumes nothing.
use Rattle.std.specs.Prelude.{ℕ, ◌+◌, ◌-◌, ◌*◌, ◌/◌, Bool, List, [], ◌∷◌, length, take, ◌==◌, nat_eq, nat_lt, slice_index, if◌then◌else◌}
use Rattle.dshot_reply_spec.specs.Answer.{Answer, given, refused, and_then}
use Rattle.dshot_reply_spec.specs.Refusals.{wrong_length, wrong_duty}
use Rattle.dshot_reply_spec.specs.Move.{bit}
use Rattle.dshot_spec.specs.Packet.{Frame, read_packet}
use Rattle.dshot_spec.specs.Tabulate.{tabulate}
use Rattle.dshot_spec.specs.Timing.{Timing, duty_for_bit}

-- whether bit i of a word is 1, the lowest at 0
abbrev pub is_set : ℕ → ℕ → Bool
is_set w i = bit w i == 1

-- ---- a whole frame in 22 slots

-- slot i of a frame: the duty of bit 15 - i, then six zeros
abbrev pub frame_slot : ℕ → ℕ → ℕ → ℕ
frame_slot w max i = if nat_lt i 16 then (if is_set w (15 - i) then max * 3 / 4 else max * 3 / 8) else 0

-- what a buffer of 22 slots is filled with; a buffer of another length is refused with 13 (wrong length)
unfoldable pub encoded_packet : List ℕ → ℕ → ℕ → Answer (List ℕ)
encoded_packet out w max = if length out == 22 then given (tabulate 22 (frame_slot w max)) else refused wrong_length

-- ---- a compare sequence: the first duty, and 16 slots

-- what `encode_compare_sequence` returns and writes
pub record Sequence : Type 0 where
  pub first : ℕ
  pub slots : List ℕ

-- slot i of a sequence: the duty of bit 14 - i; the last slot is 0, which leaves the output low
abbrev pub sequence_slot : Timing → ℕ → ℕ → ℕ
sequence_slot t w i = if nat_lt i 15 then duty_for_bit t (is_set w (14 - i)) else 0

-- the sequence of a packet word
unfoldable pub sequence_of : Timing → ℕ → Sequence
sequence_of t w = record { first = duty_for_bit t (is_set w 15); slots = tabulate 16 (sequence_slot t w) }

-- what a buffer of 16 slots is filled with; a buffer of another length is refused with 13 (wrong length)
unfoldable pub encoded_sequence : List ℕ → ℕ → Timing → Answer Sequence
encoded_sequence out w t = if length out == 16 then given (sequence_of t w) else refused wrong_length

-- the first duty, which is returned and not written
abbrev pub first_duty : Answer Sequence → Answer ℕ
first_duty a = and_then a (λ s. given s.first)

-- ---- the reader

-- the bit that a duty stands for; if it is neither high time, the refusal is 14 (wrong duty)
abbrev pub duty_bit : Timing → ℕ → Answer ℕ
duty_bit t d =
    if d == t.one_high then given 1 else
    if d == t.zero_high then given 0 else
    refused wrong_duty

-- the word of some duties, the first the highest bit, after the bits of w
abbrev pub word_from : Timing → ℕ → List ℕ → Answer ℕ
word_from t w [] = given w
word_from t w (d ∷ ds) = and_then (duty_bit t d) (λ b. word_from t (2 * w + b) ds)

-- What a sequence says. First its length is tested, and refused with 13 (wrong length). Then equal high times, the closing zero and the duties are
-- tested, and refused with 14 (wrong duty). Last comes the checksum, refused with 15 (packet checksum).
unfoldable pub read_sequence : Timing → Sequence → Answer Frame
read_sequence t s =
    if nat_eq (length s.slots) 16 then
    (if nat_eq t.zero_high t.one_high then refused wrong_duty else
    if slice_index s.slots 15 == 0 then and_then (word_from t 0 (s.first ∷ take 15 s.slots)) read_packet else
    refused wrong_duty) else
    refused wrong_length
