-- `kuzhenga::bank::kuzhenga_bank_cancel_telemetry_request` meets its contract: its number is that of the call in slots.
-- Assumes nothing.
use Rattle.kuzhenga.proofs.bank.kuzhenga_bank_cancel_telemetry_request.Goals as goal

pub returns-clause-called : goal.returns-clause-called
returns-clause-called c = λ b. rw c.status_number.ensures (c.cancel_telemetry_request.ensures.called b)
