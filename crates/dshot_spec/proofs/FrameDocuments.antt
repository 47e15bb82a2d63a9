-- The packet word and the duties of a sequence are the bits of the document (specs/Betaflight), in their order.
-- Assumes nothing.
use Rattle.std.specs.Prelude.{◌≡◌, ℕ, zero, suc, ◌+◌, ◌-◌, ◌*◌, ◌%◌, ◌^◌, ◌<◌, Bool, true, false, eqb, List, [], ◌∷◌, ◌++◌, map}
use mathlib.Core.Path.{refl, sym, ap, ◌∙◌}
use native.Mathlib.Nat.{mod-one}
use native.Mathlib.Omega.{arith}
use lib.Bits.{bit_xor}
use lib.Dec.{eqb→eq}
use lib.Pow.{high, low}
use Rattle.dshot_reply_spec.proofs.Cross.{bit-low}
use Rattle.dshot_reply_spec.proofs.Shift.{bit-above}
use Rattle.dshot_reply_spec.proofs.SimulatedRenders.{low_bits}
use Rattle.dshot_reply_spec.proofs.Table.{at}
use Rattle.dshot_reply_spec.specs.Betaflight.{number_from}
use Rattle.dshot_reply_spec.specs.Move.{bit}
use Rattle.dshot_spec.proofs.PacketReads.{check-lt, checksum-cut, checksum-lt, flag-lt, packet-small}
use Rattle.dshot_spec.proofs.SequenceReads.{duties, sequence-duties}
use Rattle.dshot_spec.specs.Betaflight.{bits, crc, frame_bits, request}
use Rattle.dshot_spec.specs.Packet.{Kind, plain, inverted, checksum, flag, is_inverted, packet_word, payload, sent}
use Rattle.dshot_spec.specs.Sequence.{sequence_of}
use Rattle.dshot_spec.specs.Timing.{Timing, duty_for_bit}

-- ---- the bits of a number

-- numbers with the same bits below n
same_bits : (w w' n : ℕ) → ((i : ℕ) → i < n → bit w i ≡ bit w' i) → bits n w ≡ bits n w'
same_bits w w' zero h = refl
same_bits w w' (suc n) h = cc (h n (omega arith), same_bits w w' n (λ i l. h i (omega arith)))

-- the bits of a number with y below x are those of x, and then those of y
bits-joined : (m n x y : ℕ) → y < 2 ^ n → bits (m + n) (x * 2 ^ n + y) ≡ bits m x ++ bits n y
bits-joined zero n x y h =
    let w = x * 2 ^ n + y in
    let e : 0 + n ≡ n = omega arith in
    rw e (same_bits w y n (λ i l. sym (bit-low w n i l) ∙ ap (λ (k : ℕ). bit k i) (low x n h)))
bits-joined (suc m) n x y h =
    let w = x * 2 ^ n + y in
    let e : suc m + n ≡ suc (m + n) = omega arith in
    let f : m + n ≡ n + m = omega arith in
    let top : bit w (m + n) ≡ bit x m = ap (bit w) f ∙ bit-above w n m ∙ ap (λ (k : ℕ). bit k m) (high x n h) in
    rw e (cc (top, bits-joined m n x y h))

-- the lowest n bits of w as a number, after the bits of acc
bits-number : (acc w n : ℕ) → number_from acc (bits n w) ≡ acc * 2 ^ n + w % 2 ^ n
bits-number acc w zero = rw mod-one (omega arith)
bits-number acc w (suc n) =
    let p : 2 ^ suc n ≡ 2 * 2 ^ n = omega arith in
    rw (low_bits w n, p) (bits-number (2 * acc + bit w n) w n ∙ omega arith)

-- ---- the parts of a frame

-- the telemetry request is the flag
requests : (t : Bool) → request t ≡ flag t
requests true = refl
requests false = refl

-- and is one bit
request-bit : (t : Bool) → bits 1 (flag t) ≡ request t ∷ []
request-bit true = refl
request-bit false = refl

-- to take a nibble from 15 inverts its bits
inverse-test : ℕ → Bool
inverse-test c = eqb (15 - c) (bit_xor c 15)

inverse : (c : ℕ) → c < 16 → 15 - c ≡ bit_xor c 15
unfolding inverse-test
inverse c h = eqb→eq (15 - c) (bit_xor c 15) (at inverse-test 16 tt c h)

-- the document's checksum is what is sent
checksums : (k : Kind) (x : ℕ) → crc (is_inverted k) x ≡ sent k (checksum x)
unfolding crc
checksums plain x = checksum-cut x
checksums inverted x = ap (λ (n : ℕ). 15 - n) (checksum-cut x) ∙ inverse (checksum x) (checksum-lt x)

-- ---- the frame

-- the bits of the document are those of the packet word
pub bits-sent : (k : Kind) (v : ℕ) (t : Bool) → v < 2048 → frame_bits (is_inverted k) v t ≡ bits 16 (packet_word k v t)
unfolding frame_bits packet_word
bits-sent k v t h =
    let p = payload v t in
    let c = sent k (checksum p) in
    let q : v * 2 + request t ≡ p = omega (arith, requests t) in
    let word : 16 * p + c ≡ p * 2 ^ 4 + c = omega arith in
    let load : p ≡ v * 2 ^ 1 + flag t = omega arith in
    let twelve : bits 12 p ≡ bits 11 v ++ (request t ∷ []) =
    ap (bits 12) load ∙ bits-joined 11 1 v (flag t) (flag-lt t) ∙ ap (λ (l : List ℕ). bits 11 v ++ l) (request-bit t) in
    ap (λ (n : ℕ). bits 11 v ++ (request t ∷ bits 4 n)) (ap (crc (is_inverted k)) q ∙ checksums k p)
    ∙ sym (ap (bits 16) word ∙ bits-joined 12 4 p c (check-lt k p) ∙ ap (λ (l : List ℕ). l ++ bits 4 c) twelve)

-- the packet word is the bits of the document as a number
pub packet-sent : (k : Kind) (v : ℕ) (t : Bool) → v < 2048 → packet_word k v t ≡ number_from 0 (frame_bits (is_inverted k) v t)
packet-sent k v t h =
    sym (ap (number_from 0) (bits-sent k v t h) ∙ bits-number 0 (packet_word k v t) 16 ∙ omega (arith, packet-small k v t))

-- the duties of a word are those of its bits
duties-bits : (tm : Timing) (n w : ℕ) → duties tm n w ≡ map (λ (b : ℕ). duty_for_bit tm (eqb b 1)) (bits n w)
unfolding duties
duties-bits tm zero w = refl
duties-bits tm (suc n) w = ap (λ (l : List ℕ). duty_for_bit tm (eqb (bit w n) 1) ∷ l) (duties-bits tm n w)

-- the duties that are sent are those of the bits of the document, in their order, and then a zero
pub duties-sent : (tm : Timing) (k : Kind) (v : ℕ) (t : Bool) → v < 2048
    → (sequence_of tm (packet_word k v t)).first ∷ (sequence_of tm (packet_word k v t)).slots
    ≡ map (λ (b : ℕ). duty_for_bit tm (eqb b 1)) (frame_bits (is_inverted k) v t) ++ (0 ∷ [])
duties-sent tm k v t h =
    let w = packet_word k v t in
    sequence-duties tm w
    ∙ ap (λ (l : List ℕ). l ++ (0 ∷ [])) (duties-bits tm 16 w ∙ ap (map (λ (b : ℕ). duty_for_bit tm (eqb b 1))) (sym (bits-sent k v t h)))
