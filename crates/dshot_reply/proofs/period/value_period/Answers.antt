-- `dshot_reply::period::value_period` refuses a value whose period is 0.
-- Assumes nothing.
use mathlib.Core.Path.{◌≡◌, sym, ◌∙◌}
use Prim.Native.Nat.{◌%◌}
use native.Mathlib.Omega.{arith}
use lib.Dec.{lit≤}
use borrow.Author.Tests.{eq-eqb, ne_eqb}
use Rattle.dshot_reply_spec.specs.Value.{period_of}
use Rattle.dshot_reply_spec.specs.ValuePeriod.{value_period}
use Rattle.dshot_reply.proofs.WordLaws.{period_shl}
use Rattle.dshot_reply.proofs.period.value_period.Goals as goal

pub returns-then-period_us-eq0 : goal.returns-then-period_us-eq0
unfolding value_period
returns-then-period_us-eq0 c =
    let v = c.args.value % 4096 in
    let none : period_of v ≡ 0 = sym (period_shl 16 v (lit≤ tt) (omega arith)) ∙ c.if-period_us-eq0.true in
    simp (ne_eqb v 0xfff c.if-v-eq-ERPM_STOPPED.false, eq-eqb (period_of v) 0 none)
