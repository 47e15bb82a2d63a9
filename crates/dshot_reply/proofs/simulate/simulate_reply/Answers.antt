-- `dshot_reply::simulate::simulate_reply` leaves the buffer as the simulated ESC does: a refusal leaves it as it was, and else it holds the reply's
-- samples.
-- Assumes nothing.
use native.Mathlib.Omega.{arith}
use Rattle.dshot_reply.proofs.SimLaws.{all-written, nonzero, refused_so}
use Rattle.dshot_reply.proofs.simulate.simulate_reply.Goals as goal

pub returns-in_err-check-clause-out_after : goal.returns-in_err-check-clause-out_after
returns-in_err-check-clause-out_after c =
    let a = c.args in
    (refused_so 3 a.out.now a.value a.lead a.pin_mask _ c.in_err-check.ensures (nonzero c.in_err-check.field-0.0)).1

pub returns-clause-out_after : goal.returns-clause-out_after
returns-clause-out_after c =
    let a = c.args in
    let written = all-written 3 a.out.now a.value a.lead a.pin_mask (omega arith) c.in_ok-check.ensures in
    rw (c.write_bits.ensures, c.reply_transitions_for.ensures, c.fill.ensures.len) written.1
