-- What the answers of private functions mean in the terms of the definitions. No promise of a public call cites these.
-- Assumes nothing.
use Rattle.std.specs.Prelude.{ℕ, ◌-◌, Option, Some, None, nat_lt, if◌then◌else◌}
use Rattle.dshot_reply_spec.specs.Answer.{Answer, given, refused}
use Rattle.dshot_reply_spec.specs.Refusals.{wrong_duty}
use Rattle.dshot_spec.specs.Sequence.{is_set}

-- the bit of a duty, or the word of some duties
abbrev pub duty_answer : Option ℕ → Answer ℕ
duty_answer (Some n) = given n
duty_answer None = refused wrong_duty

-- slot i of the lowest `bits` bits of the word w, by the duties of a 0 and of a 1
abbrev pub slot : ℕ → ℕ → ℕ → ℕ → ℕ → ℕ
slot w bits low high i = if nat_lt i bits then (if is_set w (bits - 1 - i) then high else low) else 0
