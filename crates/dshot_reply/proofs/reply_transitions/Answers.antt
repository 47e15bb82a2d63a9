-- `dshot_reply::reply_transitions` meets its contract: the start is searched among the samples that may be one. What is read from there on is assembled.
-- Assumes nothing.
use mathlib.Core.Path.{◌≡◌, sym, ◌∙◌, ap}
use mathlib.Core.Bool.{Bool, true, not, beq}
use mathlib.Core.List.{List}
use Prim.Native.Nat.{ℕ, ◌+◌, ◌-◌, ◌≤◌, min}
use native.Mathlib.Omega.{arith}
use borrow.Author.Rules.{rules}
use lib.ListN.{length, take, drop}
use lib.Seq.{length-take-le}
use Rattle.std.specs.Prelude.{Option, Some}
use Rattle.std.specs.List.{position}
use Rattle.dshot_reply_spec.specs.Answer.{refused}
use Rattle.dshot_reply_spec.specs.Refusals.{no_reply}
use Rattle.dshot_reply_spec.specs.Runs.{assemble, first_low, high, levels, runs_of}
use Rattle.dshot_reply.specs.Answers.{number_answer}
use Rattle.dshot_reply.proofs.Levels.{a-start, levels-most, low_some, low_none, start_none}
use Rattle.dshot_reply.proofs.reply_transitions.Goals as goal

pub slice_bounds-first_low-end : goal.slice_bounds-first_low-end
slice_bounds-first_low-end c =
    let a = c.args in
    let p = c.saturating_sub-starts in
    sym (length-take-le p.result a.samples.now (omega (arith, p.ensures)))

pub returns-in_err-start : goal.returns-in_err-start
returns-in_err-start c =
    let a = c.args in
    let p = c.saturating_sub-starts in
    let none = low_none a.pin_mask p.result a.samples.now (omega (arith, p.ensures)) c.first_low.result c.first_low.ensures c.in_err-start.ensures.ok_part in
    let refused : number_answer c.from_residual.result ≡ refused no_reply = search rules in
    refused ∙ sym (start_none a.pin_mask p.result a.samples.now (omega (arith, p.ensures)) 3 (omega (arith, p.ensures)) none)

found : (m k : ℕ) (s : List ℕ) (o : Option ℕ) (n : ℕ) → k ≡ length s - 56 → o ≡ position (λ x. not (beq (high m x) true)) (take k s) → o ≡ Some n
    → (n ≡ first_low (levels m s)) × (n + 57 ≤ length s)
found m k s o n e q f =
    let start = low_some m k s (omega arith) o n q f in
    (start.0, omega (arith, start.1))

pub overflow_sub-samples : goal.overflow_sub-samples
overflow_sub-samples c = omega (arith, (found c.args.pin_mask c.saturating_sub-starts.result c.args.samples.now c.first_low.result c.in_ok-start.start c.saturating_sub-starts.ensures c.first_low.ensures c.in_ok-start.ensures.ok_part).1)

pub offset_bounds-samples-start : goal.offset_bounds-samples-start
offset_bounds-samples-start c = omega (arith, (found c.args.pin_mask c.saturating_sub-starts.result c.args.samples.now c.first_low.result c.in_ok-start.start c.saturating_sub-starts.ensures c.first_low.ensures c.in_ok-start.ensures.ok_part).1)

pub slice_bounds-read_runs-end : goal.slice_bounds-read_runs-end
slice_bounds-read_runs-end c = omega (arith, (found c.args.pin_mask c.saturating_sub-starts.result c.args.samples.now c.first_low.result c.in_ok-start.start c.saturating_sub-starts.ensures c.first_low.ensures c.in_ok-start.ensures.ok_part).1)

pub returns : goal.returns
returns c =
    let a = c.args in
    let start = c.in_ok-start.start in
    let f = found c.args.pin_mask c.saturating_sub-starts.result c.args.samples.now c.first_low.result c.in_ok-start.start c.saturating_sub-starts.ensures c.first_low.ensures c.in_ok-start.ensures.ok_part in
    let n : start + c.min.result - start ≡ min (length a.samples.now - start) 69 = omega arith in
    c.read_runs.ensures
    ∙ ap (λ (k : ℕ). assemble (runs_of 3 (levels a.pin_mask (take k (drop start a.samples.now))))) n
    ∙ ap (λ (l : List Bool). assemble (runs_of 3 l)) (levels-most a.pin_mask start 69 a.samples.now)
    ∙ sym (a-start 3 a.pin_mask a.samples.now start f.0 (omega (arith, f.1)))
