-- `dshot_reply::simulate::period_value` gives the value of a period. The loop's invariant: scaling what is left, from the exponent on, gives what
use mathlib.Core.Path.{◌≡◌}
use Prim.Native.Nat.{◌-◌, ◌^◌, ◌≤◌, ◌<◌}
use Rattle.dshot_reply_spec.specs.Period.{scaled}
use Rattle.dshot_reply.proofs.simulate.period_value.Given as goal

abbrev pub invariant-loop-left : goal.invariant-loop-left
invariant-loop-left l =
    (l.exponent ≤ 7) × (l.left < 2 ^ (16 - l.exponent)) × (scaled 7 0 l.period_us ≡ scaled (7 - l.exponent) l.exponent l.left)

abbrev pub decreases-loop-left : goal.decreases-loop-left
decreases-loop-left l = l.left
