-- `kuzhenga::bank::kuzhenga_bank_on_dma_interrupt` meets its contract: its number is that of the call in slots.
-- Assumes nothing.
use Rattle.kuzhenga.proofs.bank.kuzhenga_bank_on_dma_interrupt.Goals as goal

pub returns-clause-called : goal.returns-clause-called
returns-clause-called c = λ b. rw c.status_number.ensures (c.on_dma_interrupt.ensures.called b)
