-- `dshot_reply::first_low` meets its contract: the samples passed are high.
-- Assumes nothing.
use mathlib.Core.Path.{◌≡◌, sym, ap, subst, ◌∙◌}
use mathlib.Core.Bool.{not, beq, true, ◌&&◌}
use mathlib.Core.List.{List}
use Prim.Native.Nat.{ℕ, ◌-◌, ◌*◌, ◌/◌}
use native.Mathlib.Omega.{arith}
use lib.ListN.{drop, take, length, length-drop}
use lib.Seq.{take_all}
use Rattle.std.specs.List.{fold, position, prefix_len}
use Rattle.std.specs.Simd.{first_chunks}
use Rattle.dshot_reply_spec.specs.Runs.{high}
use Rattle.dshot_reply.proofs.Levels.{High, groups_high, past_some, past_none}
use Rattle.dshot_reply.proofs.first_low.Goals as goal

passed : (m : ℕ) (s : List ℕ) (groups : List (List ℕ)) (n : ℕ) → groups ≡ first_chunks 8 (length s / 8) s
    → n ≡ prefix_len (fold (λ all x. all && high m x) true) groups → High m (8 * n) s
passed m s groups n g e =
    subst (λ (k : ℕ). High m (8 * k) s) (sym (e ∙ ap (prefix_len (fold (λ all x. all && high m x) true)) g)) (groups_high m (length s / 8) s (omega arith))

whole : (p : ℕ) (s : List ℕ) → take (length s - p) (drop p s) ≡ drop p s
whole p s = take_all (length s - p) (drop p s) (omega (arith, length-drop p s))

pub overflow_mul-passed : goal.overflow_mul-passed
overflow_mul-passed c = omega (arith, (passed c.args.pin_mask c.args.samples.now c.as_chunks.result.0.now c.high_eights-passed.result c.as_chunks.ensures.front c.high_eights-passed.ensures).0)

pub offset_bounds-samples-passed : goal.offset_bounds-samples-passed
offset_bounds-samples-passed c = omega (arith, (passed c.args.pin_mask c.args.samples.now c.as_chunks.result.0.now c.high_eights-passed.result c.as_chunks.ensures.front c.high_eights-passed.ensures).0)

pub slice_bounds-first_off-count : goal.slice_bounds-first_off-count
slice_bounds-first_off-count c = (passed c.args.pin_mask c.args.samples.now c.as_chunks.result.0.now c.high_eights-passed.result c.as_chunks.ensures.front c.high_eights-passed.ensures).0

pub slice_bounds-first_off-start : goal.slice_bounds-first_off-start
slice_bounds-first_off-start c = (passed c.args.pin_mask c.args.samples.now c.as_chunks.result.0.now c.high_eights-passed.result c.as_chunks.ensures.front c.high_eights-passed.ensures).0

pub returns-in_err-low : goal.returns-in_err-low
returns-in_err-low c =
    let a = c.args in
    let p = 8 * c.high_eights-passed.result in
    let first : c.first_off.result ≡ position (λ x. not (beq (high a.pin_mask x) true)) (drop p a.samples.now) = rw (whole p a.samples.now) at c.first_off.ensures in
    c.from_residual.ensures ∙ past_none a.pin_mask p a.samples.now (passed c.args.pin_mask c.args.samples.now c.as_chunks.result.0.now c.high_eights-passed.result c.as_chunks.ensures.front c.high_eights-passed.ensures) c.first_off.result first c.in_err-low.was

pub returns : goal.returns
returns c =
    let a = c.args in
    let p = 8 * c.high_eights-passed.result in
    let first : c.first_off.result ≡ position (λ x. not (beq (high a.pin_mask x) true)) (drop p a.samples.now) = rw (whole p a.samples.now) at c.first_off.ensures in
    past_some a.pin_mask p a.samples.now (passed c.args.pin_mask c.args.samples.now c.as_chunks.result.0.now c.high_eights-passed.result c.as_chunks.ensures.front c.high_eights-passed.ensures) c.first_off.result c.in_ok-low.low first c.in_ok-low.was
