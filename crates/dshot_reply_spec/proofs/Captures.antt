-- How long a run lasts. Captures at 3 samples a bit that render a word in each way that document 01 allows, and what the reader's theorems say of
-- them.
-- Assumes nothing.
use Rattle.std.specs.Prelude.{if◌then◌else◌}
use mathlib.Core.Path.{◌≡◌, refl}
use mathlib.Core.Logic.{◌↔◌}
use mathlib.Core.Bool.{Bool, true, false}
use mathlib.Core.List.{List, [], ◌∷◌, ◌++◌, map}
use Prim.Native.Nat.{ℕ, ◌+◌, ◌-◌, ◌*◌, ◌/◌, ◌≤◌, ◌<◌}
use native.Mathlib.Omega.{arith}
use lib.Dec.{lit<, lit≤}
use lib.ListN.{length, replicate}
use Rattle.dshot_reply_spec.proofs.Inhabited.{alternating, every-damage, may-last, runs-render}
use Rattle.dshot_reply_spec.proofs.Theorems.{damage-refused, reply-reads}
use Rattle.dshot_reply_spec.specs.Answer.{Rejected}
use Rattle.dshot_reply_spec.specs.Gcr.{reply_word, symbol_at, word_of}
use Rattle.dshot_reply_spec.specs.Reading.{sampled_reply}
use Rattle.dshot_reply_spec.specs.Render.{Damaged, Lasts, Renders}
use Rattle.dshot_reply_spec.specs.Runs.{levels}
use Rattle.dshot_reply_spec.specs.Value.{reply_of}

-- ---- runs

-- a run of k bits lasts s * k samples, or up to (s - 1) / 2 fewer or more, and nothing else
pub lasts-exactly : (s k n : ℕ) → Lasts s k n ↔ (0 < k) × (s * k - (s - 1) / 2 ≤ n) × (n ≤ s * k + (s - 1) / 2)
lasts-exactly s k n = (λ h. (omega arith, omega arith, omega arith), λ h. may-last s k n h.0 h.1 h.2)

-- at 3 samples a bit 3k - 1 to 3k + 1, as document 01 says
pub lasts-at-three : (k n : ℕ) → Lasts 3 k n ↔ (0 < k) × (3 * k - 1 ≤ n) × (n ≤ 3 * k + 1)
lasts-at-three k n = lasts-exactly 3 k n

-- samples at the pin 0x10, with all other pins high: a lead, runs of ns samples, and more levels
abbrev pub captured : ℕ → List ℕ → List Bool → List ℕ
captured lead ns more = map (λ l. if l then 0xffff else 0xffef) (replicate lead true ++ (alternating false ns ++ more))

-- ---- captures of a reply word, whose last run is high

-- value 0xFFF, every run but the last a sample short, no lead, and 57 samples from the start on
abbrev pub short_runs : List ℕ
short_runs = 5 ∷ 2 ∷ 2 ∷ 2 ∷ 5 ∷ 2 ∷ 2 ∷ 2 ∷ 5 ∷ 2 ∷ 2 ∷ 2 ∷ 2 ∷ 2 ∷ 8 ∷ 12 ∷ []

pub short-runs-render : Renders 3 (levels 0x10 (captured 0 short_runs [])) (reply_word 0xfff)
unfolding reply_word word_of
short-runs-render =
    runs-render 3 0 (alternating false short_runs) (2 ∷ 1 ∷ 1 ∷ 1 ∷ 2 ∷ 1 ∷ 1 ∷ 1 ∷ 2 ∷ 1 ∷ 1 ∷ 1 ∷ 1 ∷ 1 ∷ 3 ∷ 1 ∷ []) short_runs (lit≤ tt) refl refl tt

pub least-samples : length (captured 0 short_runs []) ≡ 57
least-samples = refl

pub short-runs-read : (extended : Bool) → sampled_reply 3 (captured 0 short_runs []) 0x10 extended ≡ reply_of 0xfff extended
short-runs-read extended = reply-reads 3 (lit< tt) (captured 0 short_runs []) 0x10 extended 0xfff short-runs-render

-- Value 0x999, a lead, and 150 samples from the start on. Every run except the last is one sample too long. The samples past the 69 that are read are
-- low.
abbrev pub long_runs : List ℕ
long_runs = 7 ∷ 10 ∷ 7 ∷ 10 ∷ 7 ∷ 10 ∷ 4 ∷ 7 ∷ 4 ∷ 3 ∷ []

pub long-runs-render : Renders 3 (levels 0x10 (captured 10 long_runs (replicate 81 false))) (reply_word 0x999)
unfolding reply_word word_of
long-runs-render =
    runs-render 3 10 (alternating false long_runs ++ replicate 81 false) (2 ∷ 3 ∷ 2 ∷ 3 ∷ 2 ∷ 3 ∷ 1 ∷ 2 ∷ 1 ∷ 2 ∷ []) long_runs (lit≤ tt) refl refl tt

pub long-runs-read : (extended : Bool) → sampled_reply 3 (captured 10 long_runs (replicate 81 false)) 0x10 extended ≡ reply_of 0x999 extended
long-runs-read extended = reply-reads 3 (lit< tt) (captured 10 long_runs (replicate 81 false)) 0x10 extended 0x999 long-runs-render

-- ---- captures of a damaged word, whose last run is low: value 0x999, the symbol of its checksum changed from 10110 to 10010

pub checksum-damaged : Damaged (reply_word 0x999) 0x14a532 0
unfolding reply_word word_of symbol_at
checksum-damaged = every-damage (reply_word 0x999) 0 0x12 (lit< tt) (lit< tt) (λ e. omega arith)

abbrev damaged_runs : List ℕ
damaged_runs = 2 ∷ 3 ∷ 2 ∷ 3 ∷ 2 ∷ 3 ∷ 1 ∷ 3 ∷ 2 ∷ []

-- the last run is still low when reading ends, after 69 samples
abbrev pub open_runs : List ℕ
open_runs = 6 ∷ 9 ∷ 6 ∷ 9 ∷ 6 ∷ 9 ∷ 3 ∷ 9 ∷ 12 ∷ []

pub low-open-end-renders : Renders 3 (levels 0x10 (captured 0 open_runs (replicate 20 true))) 0x14a532
low-open-end-renders =
    runs-render 3 0 (alternating false open_runs ++ replicate 20 true) damaged_runs open_runs (lit≤ tt) refl refl tt

pub low-open-end-refused : (extended : Bool) → Rejected (sampled_reply 3 (captured 0 open_runs (replicate 20 true)) 0x10 extended)
low-open-end-refused extended =
    damage-refused 3 (lit< tt) (captured 0 open_runs (replicate 20 true)) 0x10 extended 0x999 0x14a532 0 checksum-damaged low-open-end-renders

-- the last run closes a sample late, and one high sample follows
abbrev pub closed_runs : List ℕ
closed_runs = 6 ∷ 9 ∷ 6 ∷ 9 ∷ 6 ∷ 9 ∷ 3 ∷ 9 ∷ 7 ∷ 1 ∷ []

pub closed-low-renders : Renders 3 (levels 0x10 (captured 0 closed_runs [])) 0x14a532
closed-low-renders =
    runs-render 3 0 (alternating false closed_runs) damaged_runs closed_runs (lit≤ tt) refl refl tt

pub closed-low-refused : (extended : Bool) → Rejected (sampled_reply 3 (captured 0 closed_runs []) 0x10 extended)
closed-low-refused extended =
    damage-refused 3 (lit< tt) (captured 0 closed_runs []) 0x10 extended 0x999 0x14a532 0 checksum-damaged closed-low-renders
