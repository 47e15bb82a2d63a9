-- `kuzhenga::bank::kuzhenga_bank_take_replies` meets its contract: its number is that of the call in slots.
-- Assumes nothing.
use Rattle.kuzhenga.proofs.bank.kuzhenga_bank_take_replies.Goals as goal

pub returns-clause-called : goal.returns-clause-called
returns-clause-called c = λ b. rw c.status_number.ensures (c.take_replies.ensures.called b)
