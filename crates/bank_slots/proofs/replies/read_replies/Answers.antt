-- `bank_slots::replies::read_replies` meets its contract: if windows wait, they are read.
-- Assumes nothing.
use Rattle.std.proofs.Common.{sym, ◌∙◌}
use Rattle.bank_slots_spec.proofs.ReplyMoves.{none-waits, windows-read}
use Rattle.bank_slots.proofs.replies.read_replies.Goals as goal

pub returns-then-not-flag : goal.returns-then-not-flag
returns-then-not-flag c =
    let a = c.args in
    none-waits a.lanes.now a.captures.now a.state.now (sym c.flag.ensures ∙ c.if-not-flag.true)

pub returns : goal.returns
returns c =
    let waits = sym c.flag.ensures ∙ c.if-not-flag.false in
    windows-read c.args.lanes.now c.args.captures.now c.args.state.now c.decode_replies.array_long waits c.decode_replies.ensures
