-- `dshot_reply::read_runs` meets its contract: what is left to read is assembled after what has been read, and each run adds a bit or more.
-- Assumes nothing.
use mathlib.Core.Path.{◌≡◌, sym, ◌∙◌}
use native.Mathlib.Omega.{arith}
use borrow.Author.Rules.{rules}
use Prim.Native.Nat.{◌-◌}
use lib.ListN.{drop, take, length, length-drop}
use lib.Seq.{take_all}
use Rattle.dshot_reply.proofs.Levels.{off_some, off_none}
use Rattle.dshot_reply.proofs.RunLaws.{rest_end, rest_over, rest-run, rest-start}
use Rattle.dshot_reply.proofs.WordLaws.{push_lt, push_room}
use Rattle.dshot_reply.proofs.read_runs.Goals as goal

pub loop-length-init : goal.loop-length-init
loop-length-init c = (search rules, search rules, search rules, rest-start 3 c.args.pin_mask c.args.samples.now)

pub returns-then-bits-run : goal.returns-then-bits-run
returns-then-bits-run c =
    let v = c.loop-length in
    let r = c.run_bits-run in
    let off = off_some c.args.pin_mask v.level v.left.now c.run_length.result c.in-Some.length c.run_length.ensures c.in-Some.is in
    sym
    (v.invariant.3
    ∙ rest_over 3 c.args.pin_mask v.left.now v.level v.bits v.transitions c.in-Some.length off.0 off.1 r.result r.ensures (omega arith))

pub push_run-transitions-requires : goal.push_run-transitions-requires
push_run-transitions-requires c =
    let v = c.loop-length in
    let r = c.run_bits-run.result in
    (omega arith, omega arith, push_room v.transitions v.bits r v.invariant.2 (omega arith))

pub loop-length-preserved : goal.loop-length-preserved
loop-length-preserved c =
    let m = c.args.pin_mask in
    let v = c.loop-length in
    let n = c.in-Some.length in
    let r = c.run_bits-run in
    let p = c.push_run-transitions in
    let off = off_some m v.level v.left.now c.run_length.result n c.run_length.ensures c.in-Some.is in
    let cut : take (length v.left.now - n) (drop n v.left.now) ≡ drop n v.left.now = take_all (length v.left.now - n) (drop n v.left.now) (omega (arith, length-drop n v.left.now)) in (
      rw cut (omega (arith, length-drop n v.left.now)),
      omega arith,
      rw p.ensures (push_lt v.transitions v.bits r.result v.invariant.2 (omega arith)),
      rw cut
          (rw p.ensures
          (v.invariant.3
          ∙ rest-run 3 m v.left.now v.level v.bits v.transitions n off.0 off.1 r.result r.ensures)),
    )

pub returns : goal.returns
returns c =
    let v = c.loop-length in
    c.close.ensures
    ∙ sym
    (v.invariant.3
    ∙ rest_end 3 c.args.pin_mask v.left.now v.level v.bits v.transitions
    (off_none c.args.pin_mask v.level v.left.now c.run_length.result c.run_length.ensures c.in_default.is) (omega (arith, v.invariant.1)))
