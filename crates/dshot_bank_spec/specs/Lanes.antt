-- Lists over the lanes of a bank, and tests on them. The number of lanes is a parameter.
-- `any`, `position` and `is_some` stand for the Rust's `any`, `position` and `is_some`.
-- Assumes nothing.
use Rattle.std.specs.Prelude.{ℕ, suc, zero, Bool, true, false, List, [], ◌∷◌, if◌then◌else◌}
use Rattle.std.proofs.Math.Option.{Option, none, some}

-- x after f 0, then f 1, up to f (n - 1)
unfoldable pub each : {A : Type 0} → ℕ → (ℕ → A → A) → A → A
each zero f x = x
each (suc n) f x = f n (each n f x)

-- whether some entry passes a test
unfoldable pub any : {A : Type 0} → (A → Bool) → List A → Bool
any p [] = false
any p (x ∷ xs) = if p x then true else any p xs

-- the place of the first entry that passes a test; the length if none does
unfoldable pub position : {A : Type 0} → (A → Bool) → List A → ℕ
position p [] = 0
position p (x ∷ xs) = if p x then 0 else suc (position p xs)

-- whether an option holds something
abbrev pub is_some : {A : Type 0} → Option A → Bool
is_some none = false
is_some (some a) = true
