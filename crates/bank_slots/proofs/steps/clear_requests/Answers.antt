-- `bank_slots::steps::clear_requests` meets its contract: the requests and a run cleared, which lie one behind the other.
-- Assumes nothing.
use Rattle.std.proofs.Common.{sym, arith, length-set}
use Rattle.bank_slots_spec.specs.Places.{REQUEST}
use Rattle.bank_slots_spec.proofs.FaultMoves.{request-cleared, sent-cleared, run-cleared, requests-cleared}
use Rattle.bank_slots_spec.proofs.MoveLaws.{moves-at}
use Rattle.bank_slots.proofs.Parts.{zeroed}
use Rattle.bank_slots.proofs.steps.clear_requests.Goals as goal

pub returns : goal.returns
returns c =
    let xs = c.args.state.now in
    let n = c.told-state in
    moves-at (sym (zeroed REQUEST 7 xs (c.fill.ensures.after (λ y h. h)) (omega arith)))
    (requests-cleared (request-cleared xs n) (sent-cleared _ (simp length-set n)) (run-cleared _ (simp length-set n)))
