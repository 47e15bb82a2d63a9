-- The sequence of a packet reads back as what the packet says. If a sequence reads, it is the one that its packet is sent as.
-- Assumes nothing.
use Rattle.std.specs.Prelude.{◌≡◌, ℕ, zero, suc, ◌+◌, ◌*◌, ◌/◌, ◌%◌, ◌^◌, ◌<◌, Bool, eqb, List, [], ◌∷◌, ◌++◌, length, get_or, take}
use mathlib.Core.Path.{refl, sym, ap, ◌∙◌}
use mathlib.Core.Logic.{⊎_elim}
use native.Mathlib.Nat.{div-one, mod-one}
use native.Mathlib.Numerals.{add-one}
use native.Mathlib.Omega.{arith}
use lib.Dec.{lit<}
use lib.ListN.{drop_of_length-le}
use lib.Pow.{shr-shr}
use lib.Seq.{length-take-le, split_at}
use borrow.Author.Tests.{eq-eqb, eqb-true, ne_eqb}
use Rattle.dshot_reply_spec.proofs.SimulatedRenders.{low_bits}
use Rattle.dshot_reply_spec.specs.Answer.{Answer, given, pick, refused, and_then}
use Rattle.dshot_reply_spec.specs.Refusals.{wrong_duty, wrong_length}
use Rattle.dshot_reply_spec.specs.Move.{bit}
use Rattle.dshot_reply_spec.proofs.Given.{either-given, first-given, second-given, then-given}
use Rattle.dshot_spec.proofs.PacketReads.{packet-read, packet-reads, packet-small}
use Rattle.dshot_spec.proofs.Tabulated.{length-tabulate}
use Rattle.dshot_spec.proofs.TimingLaws.{unequal-times}
use Rattle.dshot_spec.specs.Packet.{Frame, Kind, packet_word, read_packet}
use Rattle.dshot_spec.specs.Sequence.{Sequence, duty_bit, is_set, read_sequence, sequence_of, sequence_slot, word_from}
use Rattle.dshot_spec.specs.Tabulate.{tabulate}
use Rattle.dshot_spec.specs.Timing.{Timing, duty_for_bit, from_clocks}

-- the duties of the lowest n bits of a word, the highest first
unfoldable pub duties : Timing → ℕ → ℕ → List ℕ
duties t zero w = []
duties t (suc n) w = duty_for_bit t (is_set w n) ∷ duties t n w

-- the first duty and the slots of a sequence are the duties of its word, and then a zero
pub sequence-duties : (t : Timing) (w : ℕ) → (sequence_of t w).first ∷ (sequence_of t w).slots ≡ duties t 16 w ++ (0 ∷ [])
unfolding sequence_of tabulate duties
sequence-duties t w = refl

-- a sequence has sixteen slots
pub sequence-slots : (t : Timing) (w : ℕ) → length (sequence_of t w).slots ≡ 16
unfolding sequence_of
sequence-slots t w = length-tabulate (sequence_slot t w) 16

-- ---- from a word to its duties and back

-- the duty of a bit stands for the bit
bit-read : (t : Timing) (b : ℕ) → (t.zero_high ≡ t.one_high → ⊥) → b < 2 → duty_bit t (duty_for_bit t (eqb b 1)) ≡ given b
bit-read t zero n h = rw (ne_eqb t.zero_high t.one_high n, eq-eqb t.zero_high t.zero_high refl)
bit-read t (suc zero) n h = rw (eq-eqb t.one_high t.one_high refl)
bit-read t (suc (suc b)) n h = absurd (omega arith)

-- the duties of the lowest n bits of w, after the bits of a
duties-read : (t : Timing) (a n w : ℕ) → (t.zero_high ≡ t.one_high → ⊥) → word_from t a (duties t n w) ≡ given (a * 2 ^ n + w % 2 ^ n)
unfolding duties
duties-read t a zero w ne = ap given (rw mod-one (omega arith))
duties-read t a (suc n) w ne =
    let p : 2 ^ suc n ≡ 2 * 2 ^ n = omega arith in
    let same : (2 * a + bit w n) * 2 ^ n + w % 2 ^ n ≡ a * 2 ^ suc n + w % 2 ^ suc n = rw (low_bits w n, p) (omega arith) in
    rw (bit-read t (bit w n) ne (omega arith)) (duties-read t (2 * a + bit w n) n w ne ∙ ap given same)

-- a duty that stands for a bit is the duty of that bit
pub duty-read : (t : Timing) (d b : ℕ) → duty_bit t d ≡ given b → (b < 2) × (d ≡ duty_for_bit t (eqb b 1))
duty-read t d b e =
    ⊎_elim (λ q. is 1 (lit< tt) (eqb-true d t.one_high q.0) q.1)
    (λ q. let r = first-given wrong_duty (eqb d t.zero_high) q.1 in is 0 (lit< tt) (eqb-true d t.zero_high r.0) r.1)
    (either-given (eqb d t.one_high) e)
  where
    is : (c : ℕ) → c < 2 → d ≡ duty_for_bit t (eqb c 1) → ◌≡◌ {A = Answer ℕ} (given c) (given b) → (b < 2) × (d ≡ duty_for_bit t (eqb b 1))
    is c l q r = let same : c ≡ b = cc in rw (← same) (l, q)

-- duties that read as a word, after the bits of a, are the duties of that word
duties-back : (t : Timing) (ds : List ℕ) (a w : ℕ) → word_from t a ds ≡ given w → (w / 2 ^ length ds ≡ a) × (ds ≡ duties t (length ds) w)
unfolding duties
duties-back t [] a w e = let same : a ≡ w = cc in (rw (div-one w) (sym same), refl)
duties-back t (d ∷ ds) a w e =
    let g = then-given (duty_bit t d) (λ b. word_from t (2 * a + b) ds) e in
    let b = g.0 in
    let r = duty-read t d b g.1 in
    let back = duties-back t ds (2 * a + b) w g.2 in
    let n = length ds in
    let high : w / 2 ^ suc n ≡ a = ap (λ (k : ℕ). w / 2 ^ k) (sym (add-one n)) ∙ sym (shr-shr w n 1) ∙ omega arith in
    let low : bit w n ≡ b = omega arith in
    let duty : d ≡ duty_for_bit t (is_set w n) = r.1 ∙ ap (λ (c : ℕ). duty_for_bit t (eqb c 1)) (sym low) in
    (high, cc back.1)

-- ---- sequences

-- the sequence of a packet reads back as its value, telemetry bit and kind
pub sequence-reads : (t : Timing) (k : Kind) (v : ℕ) (b : Bool) → v < 2048 → (t.zero_high ≡ t.one_high → ⊥)
    → read_sequence t (sequence_of t (packet_word k v b)) ≡ given (record { value = v; telemetry = b; kind = k })
unfolding read_sequence sequence_of tabulate duties
sequence-reads t k v b h ne =
    let w = packet_word k v b in
    let whole : 0 * 2 ^ 16 + w % 2 ^ 16 ≡ w = omega (arith, packet-small k v b) in
    ap (λ (c : Bool). pick c (refused wrong_duty) (and_then (word_from t 0 (duties t 16 w)) read_packet)) (ne_eqb t.zero_high t.one_high ne)
    ∙ ap (λ (a : Answer ℕ). and_then a read_packet) (duties-read t 0 16 w ne ∙ ap given whole)
    ∙ packet-reads k v b h

-- equal high times are refused, whatever the duties
pub equal-refused : (t : Timing) (s : Sequence) → length s.slots ≡ 16 → t.zero_high ≡ t.one_high → read_sequence t s ≡ refused wrong_duty
unfolding read_sequence
equal-refused t s l e = rw (eq-eqb (length s.slots) 16 l, eq-eqb t.zero_high t.one_high e)

-- the sequence of a packet reads back, for a timing that the clocks give
pub clocks-read : (s clock bitrate : ℕ) (t : Timing) (k : Kind) (v : ℕ) (b : Bool) → v < 2048 → from_clocks s clock bitrate ≡ given t
    → read_sequence t (sequence_of t (packet_word k v b)) ≡ given (record { value = v; telemetry = b; kind = k })
clocks-read s clock bitrate t k v b h e = sequence-reads t k v b h (unequal-times s clock bitrate e)

-- sixteen duties that read as a word, and a zero, are the sequence of the word
sequence-back : (t : Timing) (s : Sequence) (w : ℕ) → length s.slots ≡ 16 → get_or s.slots 15 0 ≡ 0
    → word_from t 0 (s.first ∷ take 15 s.slots) ≡ given w
    → (w < 65536) × (s ≡ sequence_of t w)
unfolding sequence_of tabulate duties
sequence-back t s w long ends e =
    let ds = s.slots in
    let size : length (take 15 ds) ≡ 15 = length-take-le 15 ds (omega arith) in
    let back = rw size at (duties-back t (s.first ∷ take 15 ds) 0 w e) in
    let same = back.1 in
    let one : s.first ≡ duty_for_bit t (is_set w 15) = cc in
    let front : take 15 ds ≡ duties t 15 w = cc in
    let all : ds ≡ duties t 15 w ++ (0 ∷ []) = split_at ds 15 0 (omega arith) ∙ rw (front, ends, drop_of_length-le ds {i = 16} (omega arith)) in
    (omega arith, λ j. record { first = one j; slots = all j })

-- a sequence that reads is the one that the packet of what it says is sent as
pub sequence-read : (t : Timing) (s : Sequence) (f : Frame) → read_sequence t s ≡ given f
    → (f.value < 2048) × (s ≡ sequence_of t (packet_word f.kind f.value f.telemetry))
unfolding read_sequence
sequence-read t s f e =
    let a = first-given wrong_length (eqb (length s.slots) 16) e in
    let b = second-given wrong_duty (eqb t.zero_high t.one_high) a.1 in
    let c = first-given wrong_duty (eqb (get_or s.slots 15 0) 0) b.1 in
    let d = then-given (word_from t 0 (s.first ∷ take 15 s.slots)) read_packet c.1 in
    let q = sequence-back t s d.0 (eqb-true (length s.slots) 16 a.0) (eqb-true (get_or s.slots 15 0) 0 c.0) d.1 in
    let r = packet-read d.0 f q.0 d.2 in
    (r.0, q.1 ∙ ap (sequence_of t) r.1)
