-- `dshot_bank::send::encode` meets its contract: a part of sixteen slots is not refused.
-- Assumes nothing.
use Rattle.std.specs.Prelude.{Result, Ok, Err}
use Rattle.std.proofs.Common.{◌≡◌, ℕ, List, length, refl, ap, sym, ◌∙◌, subst, eq-eqb}
use Rattle.std.specs.Result.{IsOk}
use Rattle.dshot_reply_spec.specs.Answer.{given, filled}
use Rattle.dshot_spec.specs.Timing.{Timing}
use Rattle.dshot_spec.specs.Sequence.{Sequence, sequence_of, encoded_sequence, first_duty}
use Rattle.dshot_reply.specs.declared.refusals.WrongLength.{WrongLength}
use Rattle.dshot.specs.Answers.{timing_of, first_answer}
use Rattle.dshot_bank.proofs.send.encode.Goals as goal

-- what is given is an `Ok`
ok-given : (r : Result ℕ WrongLength) {n : ℕ} → first_answer r ≡ given n → r ≡ Ok n
ok-given (Ok d) e = ap Ok (cc)
ok-given (Err x) e = cc

-- sixteen slots are filled
encoded : (part : List ℕ) (w : ℕ) (t : Timing) → length part ≡ 16 → encoded_sequence part w t ≡ given (sequence_of t w)
unfolding encoded_sequence
encoded part w t long = rw (eq-eqb (length part) 16 long)

pub unwrap-requires : goal.unwrap-requires
unwrap-requires c =
    let a = c.args in
    let e = c.encode_compare_sequence.ensures in
    subst (λ (r : Result ℕ WrongLength). IsOk r)
    (sym (ok-given c.encode_compare_sequence.result (e.result_value ∙ ap first_duty (encoded a.part.now a.packet.0 (timing_of a.timing) c.requires)))) refl

pub returns : goal.returns
returns c =
    let a = c.args in
    let e = c.encode_compare_sequence.ensures in
    let full = encoded a.part.now a.packet.0 (timing_of a.timing) c.requires in
    let first = ok-given c.encode_compare_sequence.result (e.result_value ∙ ap first_duty full) in
    let told = sym c.unwrap.ensures ∙ first in
    record { value = cc told; part_after = e.dma_output_after ∙ ap (filled (λ (s : Sequence). s.slots) a.part.now) full }
