-- A bidirectional DShot reply as Betaflight's DShot documentation describes it, bit by bit as it goes over the wire. It is written from what is known
-- of that documentation, not from the code. The documentation's text was not at hand (docs/DIFFERENCES.md).
-- Assumes nothing.
use Rattle.std.specs.Prelude.{ℕ, ◌+◌, ◌-◌, ◌*◌, ◌/◌, ◌%◌, ◌^◌, Bool, false, not, List, [], ◌∷◌, ◌++◌, eqb, get_or, replicate, if◌then◌else◌}
use Rattle.std.specs.Int.Bits.{bit_xor}
use Rattle.dshot_reply_spec.specs.Answer.{Answer, given, refused}
use Rattle.dshot_reply_spec.specs.Refusals.{zero_period}
use Rattle.dshot_reply_spec.specs.Value.{Reading, erpm}

-- the checksum is inverted: ~(value ^ (value >> 4) ^ (value >> 8)) & 0x0F
unfoldable pub crc : ℕ → ℕ
crc v = 15 - bit_xor (bit_xor v (v / 16)) (v / 256) % 16

-- the GCR table: the five bits that are sent for each nibble, 0 to F, first bit first
abbrev pub table : List (List ℕ)
table =
    (1 ∷ 1 ∷ 0 ∷ 0 ∷ 1 ∷ []) ∷ (1 ∷ 1 ∷ 0 ∷ 1 ∷ 1 ∷ []) ∷ (1 ∷ 0 ∷ 0 ∷ 1 ∷ 0 ∷ []) ∷ (1 ∷ 0 ∷ 0 ∷ 1 ∷ 1 ∷ [])
    ∷ (1 ∷ 1 ∷ 1 ∷ 0 ∷ 1 ∷ []) ∷ (1 ∷ 0 ∷ 1 ∷ 0 ∷ 1 ∷ []) ∷ (1 ∷ 0 ∷ 1 ∷ 1 ∷ 0 ∷ []) ∷ (1 ∷ 0 ∷ 1 ∷ 1 ∷ 1 ∷ [])
    ∷ (1 ∷ 1 ∷ 0 ∷ 1 ∷ 0 ∷ []) ∷ (0 ∷ 1 ∷ 0 ∷ 0 ∷ 1 ∷ []) ∷ (0 ∷ 1 ∷ 0 ∷ 1 ∷ 0 ∷ []) ∷ (0 ∷ 1 ∷ 0 ∷ 1 ∷ 1 ∷ [])
    ∷ (1 ∷ 1 ∷ 1 ∷ 1 ∷ 0 ∷ []) ∷ (0 ∷ 1 ∷ 1 ∷ 0 ∷ 1 ∷ []) ∷ (0 ∷ 1 ∷ 1 ∷ 1 ∷ 0 ∷ []) ∷ (0 ∷ 1 ∷ 1 ∷ 1 ∷ 1 ∷ []) ∷ []

unfoldable pub gcr : ℕ → List ℕ
gcr n = get_or table n []

-- the twenty bits that are sent for a 12-bit value: its nibbles, the highest first, then the checksum, each as GCR
unfoldable pub reply_bits : ℕ → List ℕ
reply_bits v = gcr (v / 256) ++ (gcr (v / 16 % 16) ++ (gcr (v % 16) ++ gcr (crc v)))

-- bits as a number, the first bit the highest, after the bits of w
abbrev pub number_from : ℕ → List ℕ → ℕ
number_from w [] = w
number_from w (b ∷ bs) = number_from (2 * w + b) bs

-- the level of the line in each bit, after the level l: a 1 changes it, a 0 keeps it
abbrev pub line_from : Bool → List ℕ → List Bool
line_from l [] = []
line_from l (b ∷ bs) = (if eqb b 1 then not l else l) ∷ line_from (if eqb b 1 then not l else l) bs

-- the line of a reply: it idles high, goes low for the start bit, and the twenty bits follow
abbrev pub reply_line : ℕ → List Bool
reply_line v = false ∷ line_from false (reply_bits v)

-- the line with s samples for each bit
abbrev pub sampled : ℕ → List Bool → List Bool
sampled s [] = []
sampled s (l ∷ ls) = replicate s l ++ sampled s ls

-- ---- the speed of a 12-bit value eeemmmmmmmmm

-- the period in microseconds: m, shifted left by e
abbrev pub period : ℕ → ℕ
period v = v % 512 * 2 ^ (v / 512)

-- eRPM is 60 000 000 microseconds a minute divided by the period. 0xFFF stands for a stopped rotor. The documentation says neither how a quotient is
-- rounded nor what a period of 0 means. Document 01 decides these: eRPM is given in hundreds, to the nearest, halves up, and a period of 0 is refused
-- with 11 (zero period).
abbrev pub nearest : ℕ → ℕ → ℕ
nearest a b = (2 * a + b) / (2 * b)

unfoldable pub speed : ℕ → Answer Reading
speed v =
    if eqb v 0xfff then given (erpm 0) else
    if eqb (period v) 0 then refused zero_period else
    given (erpm (nearest 600000 (period v)))
