-- What an answer gives as numbers.
-- Assumes nothing.
use Rattle.std.specs.Prelude.{ℕ}
use Rattle.dshot_reply_spec.specs.Answer.{Answer, given, refused}

-- a number of what was given; 0 if the answer is a refusal
abbrev pub of_given : {A : Type 0} → (A → ℕ) → Answer A → ℕ
of_given f (given a) = f a
of_given f (refused n) = 0
