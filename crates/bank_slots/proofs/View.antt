-- The view of the sequence that a lane is sending: what the port refuses, and what is shown.
-- Assumes nothing.
use Rattle.std.specs.Prelude.{if◌then◌else◌}
use Rattle.std.proofs.Common.{◌≡◌, ℕ, ◌+◌, ◌-◌, ◌*◌, ◌<◌, ◌≤◌, Bool, true, false, ltb, List, length, take, drop, refl, ap, ◌∙◌, arith, le-ltb, lt-ltb}
use Rattle.dshot_reply_spec.specs.Answer.{pick}
use Rattle.dshot_reply_spec.specs.Refusals.{no_such_motor}
use Rattle.dshot_bank_spec.specs.State.{Buffers}
use Rattle.dshot_bank_spec.specs.Calls.{Stepped, sending, slots, sequence_sent, act}
use Rattle.dshot_bank_spec.specs.Steps.{buffers_fit, length_refusal, port_refusal, refuse_or, step}
use Rattle.bank_slots_spec.specs.Memory.{at}
use Rattle.bank_slots_spec.specs.Places.{IN_SECOND}
use Rattle.bank_slots_spec.specs.Load.{flag, load}
use Rattle.bank_slots_spec.specs.Places as Places
use Rattle.bank_slots_spec.specs.Called.{state_at}
use Rattle.bank_slots_spec.proofs.LookLaws.{LooksAt, refused-at, told_at, view-is}
use Rattle.bank_slots.proofs.Parts.{part-is}

module _ (xs out : List ℕ) (b : Buffers) (motor : ℕ) (n : length xs ≡ Places.slots) (l : length out ≡ 16) where
  -- the step, by its two tests
  abbrev answered : Bool → Bool → Stepped
  answered fits there = refuse_or (state_at xs b) (length_refusal fits (if there then 0 else no_such_motor)) (act 4 (state_at xs b) (sending motor))

  sending-is : {fits there : Bool} → buffers_fit 4 b ≡ fits → ltb motor 4 ≡ there → step 4 (state_at xs b) (sending motor) ≡ answered fits there
  unfolding step port_refusal
  sending-is e h = λ j. answered (e j) (h j)

  pub unfit-view : buffers_fit 4 b ≡ false → LooksAt (sending motor) 16 xs out b out 13
  unfit-view e = refused-at (sending motor) 16 xs out n l b (ap (λ (r : Stepped). r.answer) (sending-is e refl)) (λ z. omega arith)

  pub missing-view : buffers_fit 4 b ≡ true → 4 ≤ motor → LooksAt (sending motor) 16 xs out b out 12
  missing-view e h = refused-at (sending motor) 16 xs out n l b (ap (λ (r : Stepped). r.answer) (sending-is e (le-ltb motor 4 h))) (λ z. omega arith)

  pub shown-view : {in_second : Bool} {sent after : List ℕ} → buffers_fit 4 b ≡ true → motor < 4 → flag (at xs (IN_SECOND + motor)) ≡ in_second
      → sent ≡ pick in_second b.second b.first → after ≡ take (16 * motor + 16 - 16 * motor) (drop (16 * motor) sent) → LooksAt (sending motor) 16 xs out b after 0
  shown-view {in_second} {sent} e h f s q =
      told_at (sending motor) 16 xs out n l b (slots (sequence_sent (load xs).core b motor))
      (ap (λ (r : Stepped). r.answer) (sending-is e (lt-ltb motor 4 h)))
      refl
      (q ∙ part-is 16 motor _ sent refl ∙ ap (λ (x : List ℕ). take 16 (drop (16 * motor) x)) s ∙ view-is xs b motor h f)
