-- The sum that the benchmark needs, modulo 2 ^ 32.
-- Assumes nothing.
use Rattle.std.specs.Prelude.{ℕ, ◌+◌, ◌*◌, ◌%◌, ◌^◌, List, fold}
use Rattle.dshot_reply_spec.specs.Answer.{Answer, given, refused}
use Rattle.dshot_reply_spec.specs.Gcr.{decode_word}

-- an answer as one number: the value, or 65536 x the refusal's number
abbrev pub packed : Answer ℕ → ℕ
packed (given v) = v
packed (refused n) = 65536 * n

-- what the words decode to, added to s one by one
abbrev pub total_from : ℕ → List ℕ → ℕ
total_from s ws = fold (λ sum w. (sum + packed (decode_word w)) % 2 ^ 32) s ws
