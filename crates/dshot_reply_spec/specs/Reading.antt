-- What the reader answers for a capture, all layers at once.
-- Stands for `decode_sampled_reply` of crates/ferrowasp-output/src/dshot_reply.rs (Eirik2020/ferro-wasp, commit 9cb8aca1a6, Copyright (c) 2026
-- Kaldstrand, Apache-2.0), changed: rewritten as a definition.
-- Assumes nothing.
use Rattle.std.specs.Prelude.{ℕ, Bool, List}
use Rattle.dshot_reply_spec.specs.Answer.{Answer, and_then}
use Rattle.dshot_reply_spec.specs.Gcr.{decode_word}
use Rattle.dshot_reply_spec.specs.Runs.{transitions_of}
use Rattle.dshot_reply_spec.specs.Value.{Reading, reply_of}

-- the reading of a word
unfoldable pub word_reply : ℕ → Bool → Answer Reading
word_reply w extended = and_then (decode_word w) (λ v. reply_of v extended)

-- the reading of samples, s samples a bit, at the pins of a mask
unfoldable pub sampled_reply : ℕ → List ℕ → ℕ → Bool → Answer Reading
sampled_reply s samples mask extended = and_then (transitions_of s samples mask) (λ w. word_reply w extended)
