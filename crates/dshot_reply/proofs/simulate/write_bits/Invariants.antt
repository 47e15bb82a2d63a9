-- `dshot_reply::simulate::write_bits` leaves the word's samples in the buffer. The loop's invariant: three samples are written for each bit passed.
use mathlib.Core.Path.{◌≡◌}
use Prim.Native.Nat.{◌*◌, ◌-◌}
use lib.ListN.{length}
use Rattle.dshot_reply.proofs.SimLaws.{Left, after}
use Rattle.dshot_reply.proofs.simulate.write_bits.Given as goal

abbrev pub invariant-loop-k : goal.invariant-loop-k
invariant-loop-k l =
    (length l.out ≡ length l.initial.out)
    × Left 3 l.word l.pin_mask l.level (21 - l.k) (3 * l.k) × (l.out ≡ after 3 l.word l.lead l.pin_mask (length l.initial.out) (3 * l.k))
