-- A packet word reads back as what it was made of. If a word reads, it is the packet of what it says.
-- Assumes nothing.
use Rattle.std.specs.Prelude.{◌≡◌, ℕ, zero, suc, ◌+◌, ◌*◌, ◌/◌, ◌%◌, ◌<◌, Bool, true, false, not, eqb}
use mathlib.Core.Path.{refl, subst, ap, ◌∙◌}
use mathlib.Core.Logic.{⊎_elim}
use native.Mathlib.Nat.{mod-mod}
use native.Mathlib.Omega.{arith}
use lib.Bits.{bit_xor, xor_mod}
use lib.Dec.{lit<}
use borrow.Author.Tests.{eq-eqb, eqb-true, ne_eqb}
use Rattle.dshot_reply_spec.proofs.Table.{at}
use Rattle.dshot_reply_spec.proofs.XorLaws.{nibble-xor}
use Rattle.dshot_reply_spec.specs.Answer.{given}
use Rattle.dshot_reply_spec.specs.Refusals.{wrong_packet_checksum}
use Rattle.dshot_reply_spec.proofs.Given.{either-given, first-given}
use Rattle.dshot_spec.specs.Packet.{Frame, Kind, plain, inverted, checksum, flag, frame_of, packet_word, payload, read_packet, sent}

-- ---- the parts of a packet word

-- a flag is a bit
pub flag-lt : (t : Bool) → flag t < 2
flag-lt true = lit< tt
flag-lt false = lit< tt

-- a bit, read as a flag and written again
pub flag-bit : (b : ℕ) → b < 2 → flag (eqb b 1) ≡ b
flag-bit zero h = refl
flag-bit (suc zero) h = refl
flag-bit (suc (suc b)) h = absurd (omega arith)

-- a flag, written as a bit and read again
pub bit-flag : (t : Bool) → eqb (flag t) 1 ≡ t
bit-flag true = refl
bit-flag false = refl

-- a payload has twelve bits
pub payload_lt : (v : ℕ) (t : Bool) → payload v t < 4096
payload_lt v t = omega (arith, flag-lt t)

-- a checksum is a nibble
pub checksum-lt : (p : ℕ) → checksum p < 16
checksum-lt p =
    nibble-xor (bit_xor (p % 16) (p / 16 % 16)) (p / 256 % 16) (nibble-xor (p % 16) (p / 16 % 16) (omega arith) (omega arith)) (omega arith)

-- to cut the exclusive or of three numbers to a nibble is to cut each of them
pub checksum-cut : (p : ℕ) → bit_xor (bit_xor p (p / 16)) (p / 256) % 16 ≡ checksum p
checksum-cut p = xor_mod (bit_xor p (p / 16)) (p / 256) 4 ∙ ap (λ (n : ℕ). bit_xor n (p / 256 % 16)) (xor_mod p (p / 16) 4)

-- what is sent of a nibble is a nibble
pub sent-lt : (k : Kind) (c : ℕ) → c < 16 → sent k c < 16
sent-lt plain c h = h
sent-lt inverted c h = nibble-xor c 15 h (lit< tt)

-- what is sent for a payload is a nibble
pub check-lt : (k : Kind) (p : ℕ) → sent k (checksum p) < 16
check-lt k p = sent-lt k (checksum p) (checksum-lt p)

-- an inverted checksum is never the plain one
apart-test : ℕ → Bool
apart-test c = not (eqb (bit_xor c 15) c)

apart : (c : ℕ) → c < 16 → bit_xor c 15 ≡ c → ⊥
unfolding apart-test
apart c h e = rw (eq-eqb (bit_xor c 15) c e) at (at apart-test 16 tt c h)

-- a packet word has sixteen bits
pub packet-small : (k : Kind) (v : ℕ) (t : Bool) → packet_word k v t < 65536
unfolding packet_word
packet-small k v t = omega (arith, payload_lt v t, check-lt k (payload v t))

-- only eleven bits of the value count
pub packet-low : (k : Kind) (v : ℕ) (t : Bool) → packet_word k v t ≡ packet_word k (v % 2048) t
unfolding packet_word
packet-low k v t = rw (mod-mod v 2048)

-- ---- reading

-- a payload says its value and its telemetry bit
frame-of : (k : Kind) (v : ℕ) (t : Bool) → v < 2048 → frame_of k (payload v t) ≡ record { value = v; telemetry = t; kind = k }
frame-of k v t h =
    let high : payload v t / 2 ≡ v = omega (arith, flag-lt t) in
    let low : payload v t % 2 ≡ flag t = omega (arith, flag-lt t) in
    let asked : eqb (payload v t % 2) 1 ≡ t = rw low (bit-flag t) in
    λ j. record { value = high j; telemetry = asked j; kind = k }

-- the nibble of a word, and the payload above it
nibble-of : (k : Kind) (p : ℕ) → (16 * p + sent k (checksum p)) % 16 ≡ sent k (checksum p)
nibble-of k p = omega (arith, check-lt k p)

payload-of : (k : Kind) (p : ℕ) → (16 * p + sent k (checksum p)) / 16 ≡ p
payload-of k p = omega (arith, check-lt k p)

-- a payload and the nibble that is sent for it read as a frame of its kind
word_read : (k : Kind) (p : ℕ) → read_packet (16 * p + sent k (checksum p)) ≡ given (frame_of k p)
unfolding read_packet
word_read plain p = rw (nibble-of plain p, payload-of plain p, eq-eqb (checksum p) (checksum p) refl)
word_read inverted p =
    let c = checksum p in
    rw (nibble-of inverted p, payload-of inverted p, ne_eqb (bit_xor c 15) c (apart c (checksum-lt p)), eq-eqb (bit_xor c 15) (bit_xor c 15) refl)

-- a packet reads back as its value, telemetry bit and kind
pub packet-reads : (k : Kind) (v : ℕ) (t : Bool) → v < 2048
    → read_packet (packet_word k v t) ≡ given (record { value = v; telemetry = t; kind = k })
unfolding packet_word
packet-reads k v t h = word_read k (payload v t) ∙ ap given (frame-of k v t h)

-- the word is the packet of the frame
abbrev PacketOf : ℕ → Frame → Type 0
PacketOf w f = (f.value < 2048) × (w ≡ packet_word f.kind f.value f.telemetry)

-- a word with the checksum of its kind is the packet of its payload
packed : (k : Kind) (w : ℕ) → w < 65536 → w % 16 ≡ sent k (checksum (w / 16)) → PacketOf w (frame_of k (w / 16))
unfolding packet_word
packed k w h e =
    let p = w / 16 in
    let same : payload (p / 2) (eqb (p % 2) 1) ≡ p = omega (arith, flag-bit (p % 2) (omega arith)) in
    (omega arith, rw same (omega arith))

-- a word that reads is the packet of what it says
pub packet-read : (w : ℕ) (f : Frame) → w < 65536 → read_packet w ≡ given f
    → (f.value < 2048) × (w ≡ packet_word f.kind f.value f.telemetry)
unfolding read_packet
packet-read w f h e =
    let p = w / 16 in
    ⊎_elim (λ q. read plain (eqb-true (w % 16) (checksum p) q.0) q.1)
    (λ q. let r = first-given wrong_packet_checksum (eqb (w % 16) (sent inverted (checksum p))) q.1 in
    read inverted (eqb-true (w % 16) (sent inverted (checksum p)) r.0) r.1)
    (either-given (eqb (w % 16) (checksum p)) e)
  where
    read : (k : Kind) → w % 16 ≡ sent k (checksum (w / 16)) → given (frame_of k (w / 16)) ≡ given f → PacketOf w f
    read k q r = let same : frame_of k (w / 16) ≡ f = cc in subst (PacketOf w) same (packed k w h q)
