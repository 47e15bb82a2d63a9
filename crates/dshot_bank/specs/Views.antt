-- What the code's view returns, in the terms of the definitions. Added, for document 01's view.
-- Assumes nothing.
use Rattle.std.specs.Prelude.{ℕ, List, Result, Ok, Err}
use Rattle.std.specs.Borrow.{Bor}
use Rattle.dshot_reply_spec.specs.Refusals.{wrong_length, no_such_motor}
use Rattle.dshot_bank_spec.specs.Calls.{Answer, refused, slots}
use Rattle.dshot_bank.specs.declared.looks.ViewError.{ViewError}
use Rattle.dshot_bank.specs.declared.looks.ViewError.TheVariants.{WrongLength, NoSuchMotor}

abbrev pub view_error_number : ViewError → ℕ
view_error_number WrongLength = wrong_length
view_error_number NoSuchMotor = no_such_motor

-- the part that is shown, or document 01's number of the refusal
abbrev pub view_answer : Result (Bor (List ℕ)) ViewError → Answer
view_answer (Ok part) = slots part.now
view_answer (Err error) = refused (view_error_number error)
