-- `dshot_reply::simulate::write_bits` leaves the word's samples in the buffer. The loop's invariant: three samples are written for each bit passed.
-- Assumes nothing.
use mathlib.Core.Path.{◌≡◌, refl, ◌∙◌}
use Prim.Native.Nat.{suc, ◌+◌, ◌*◌, ◌-◌}
use native.Mathlib.Omega.{arith}
use lib.ListN.{length, take, drop, length-drop}
use lib.Seq.{length-take-le}
use Rattle.dshot_reply.proofs.SimLaws.{Left, left-start, after-start, left-next, after_next, after-end}
use Rattle.dshot_reply.proofs.simulate.write_bits.Goals as goal

pub loop-k-init : goal.loop-k-init
loop-k-init c =
    let a = c.args in (
      refl,
      left-start 3 a.word a.pin_mask,
      c.requires.1 ∙ after-start 3 a.word a.lead a.pin_mask (length a.out.now) c.requires.0,
    )

pub loop-k-preserved : goal.loop-k-preserved
loop-k-preserved c =
    let a = c.args in
    let v = c.loop-k in
    let b = c.next_level-level in
    let i = 20 - v.k in
    let left : 21 - v.k ≡ suc i = omega arith in
    let next : 21 - (v.k + 1) ≡ i = omega arith in
    let more : 3 * (v.k + 1) ≡ 3 * v.k + 3 = omega arith in
    let three : a.lead + 3 * v.k + 3 - (a.lead + 3 * v.k) ≡ 3 = omega arith in
    let l : Left 3 a.word a.pin_mask v.level (suc i) (3 * v.k) = rw left at v.invariant.1 in
    let room : length (take 3 (drop (a.lead + 3 * v.k) v.out)) ≡ 3 = length-take-le 3 (drop (a.lead + 3 * v.k) v.out) (simp length-drop (omega arith)) in
    let filled = c.fill.ensures.after (λ y h. h) in (
      omega (arith, c.fill.auto.self),
      rw (next, more, b.ensures) (left-next 3 a.word a.pin_mask v.level i (3 * v.k) l),
      rw (filled, three, room, c.level_sample.ensures, b.ensures, v.invariant.2, more)
          (after_next 3 a.word a.lead a.pin_mask (length a.out.now) c.requires.0 v.level i (3 * v.k) (omega arith) l),
    )

pub returns : goal.returns
returns c =
    let a = c.args in
    let v = c.loop-k in
    let e : 3 * v.k ≡ 63 = omega arith in
    cc (after-end 3 a.word a.lead a.pin_mask (length a.out.now) c.requires.0)
