-- A number of a capture file, which document 01 adds: up to 65535, in groups of seven bits, in the shortest form.
-- Assumes nothing.
use Rattle.std.specs.Prelude.{ℕ, zero, suc, ◌+◌, ◌-◌, ◌*◌, ◌/◌, ◌%◌, List, [], ◌∷◌, eqb, ltb, if◌then◌else◌}
use Rattle.dshot_reply_spec.specs.Answer.{Answer, given, refused, and_then}
use Rattle.dshot_reply_spec.specs.Refusals.{not_acapture}

-- A number up to 65535 in one, two or three groups of seven bits, lowest first. 128 is added to every group except the last.
unfoldable pub groups : ℕ → List ℕ
groups n =
    if ltb n 128 then n ∷ [] else
    if ltb n 16384 then (128 + n % 128) ∷ n / 128 ∷ [] else
    (128 + n % 128) ∷ (128 + n / 128 % 128) ∷ n / 16384 ∷ []

-- a number at the head of bytes, and the bytes after it
pub record Headed : Type 0 where
  pub number : ℕ
  pub rest : List ℕ

abbrev pub headed : ℕ → List ℕ → Headed
headed n s = record { number = n; rest = s }

-- A byte below 128 is a number. Any other byte holds the lowest seven bits of a number, and the rest follows. The rest is not 0, so the form is the
-- shortest.
abbrev pub read_groups : List ℕ → Answer Headed
read_groups [] = refused not_acapture
read_groups (b ∷ s) =
    if ltb b 128 then given (headed b s) else and_then (read_groups s) (λ r.
    if eqb r.number 0 then refused not_acapture else given (headed (b - 128 + 128 * r.number) r.rest))

-- the same up to 65535, so in at most three groups
unfoldable pub read_number : List ℕ → Answer Headed
read_number bytes = and_then (read_groups bytes) (λ r. if ltb 65535 r.number then refused not_acapture else given r)

-- n numbers, with nothing after them
abbrev pub read_all : ℕ → List ℕ → Answer (List ℕ)
read_all zero [] = given []
read_all zero (b ∷ s) = refused not_acapture
read_all (suc n) s = and_then (read_number s) (λ r. and_then (read_all n r.rest) (λ xs. given (r.number ∷ xs)))
