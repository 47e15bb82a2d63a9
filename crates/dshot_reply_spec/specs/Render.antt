-- Document 01's terms "renders" (a capture renders a word) and "damage" (a word is damaged within one symbol).
-- Assumes nothing.
use Rattle.std.specs.Prelude.{ℕ, ◌+◌, ◌-◌, ◌*◌, ◌/◌, ◌≤◌, ◌<◌, ◌≡◌, Bool, true, false, not, List, [], ◌∷◌, ◌++◌, length, take, replicate}
use Rattle.dshot_reply_spec.specs.Gcr.{symbol_at}
use Rattle.dshot_reply_spec.specs.Runs.{REPLY_BITS, MIN_REPLY_SAMPLES, MAX_REPLY_SAMPLES, sum, runs_word}

-- A run of n samples lasts k bits. At s samples a bit it is at most (s - 1) / 2 samples too short or too long. At 3 samples a bit these are 3k - 1 to
-- 3k + 1 samples.
abbrev pub Lasts : ℕ → ℕ → ℕ → Type 0
Lasts s k n = (0 < k) × (s * k ≤ n + (s - 1) / 2) × (n ≤ s * k + (s - 1) / 2)

-- The levels that are read are runs of ks bits. High and low runs take turns, and the first has the level l. Each run has a sample that is read, so
-- every edge lies inside what is read. The last run ends in one of three ways. A high run stays high to the end of reading. A low run closes, and all
-- that is read after it is high. A low run does not close before the end of reading.
pub data RenderedRuns (s : ℕ) : Bool → List ℕ → List Bool → Type 0 where
  run : (l : Bool) (k n : ℕ) (ks : List ℕ) (ls : List Bool) → Lasts s k n → RenderedRuns s (not l) ks ls → RenderedRuns s l (k ∷ ks) (replicate n l ++ ls)
  open_end : (l : Bool) (k n : ℕ) → 0 < k → 0 < n → RenderedRuns s l (k ∷ []) (replicate n l)
  closed_low : (k n m : ℕ) → Lasts s k n → 0 < m → RenderedRuns s false (k ∷ []) (replicate n false ++ replicate m true)

-- the bits of a last run that does not close before the end of reading; 0 if the last run closes
abbrev pub open_bits : {s : ℕ} {l : Bool} {ks : List ℕ} {ls : List Bool} → RenderedRuns s l ks ls → ℕ
open_bits (run l k n ks ls h r) = open_bits r
open_bits (open_end l k n h some) = k
open_bits (closed_low k n m h some) = 0

-- The levels of a capture render the 21 bits of the word w. They are high before the start. From the start on there are samples for at least 19 bits
-- (57 at 3 samples a bit). At most 23 bits of samples are read (69 at 3), and these are the runs of w.
pub record Renders (s : ℕ) (ls : List Bool) (w : ℕ) : Type 0 where
  pub lead : ℕ
  pub after : List Bool
  pub runs : List ℕ
  pub split : ls ≡ replicate lead true ++ after
  pub room : MIN_REPLY_SAMPLES s ≤ length after
  pub bits : sum runs ≡ REPLY_BITS
  pub word : runs_word 0 runs ≡ w
  pub rendered : RenderedRuns s false runs (take (MAX_REPLY_SAMPLES s) after)

-- Damage turns w into w': it changes the symbol at place p, and no other symbol.
pub record Damaged (w w' p : ℕ) : Type 0 where
  pub place : p < 4
  pub changed : symbol_at w' p ≡ symbol_at w p → ⊥
  pub others : (q : ℕ) → (q ≡ p → ⊥) → symbol_at w' q ≡ symbol_at w q
