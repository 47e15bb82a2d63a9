-- The numbers that the digits of document 01's line stand for. The theorems that digits read back use them.
-- Assumes nothing.
use Rattle.std.specs.Prelude.{ℕ, ◌+◌, ◌-◌, ◌*◌, List, [], ◌∷◌, ltb, if◌then◌else◌}

-- the value of a digit; in ASCII, 0 to 9 stand before a to f
unfoldable pub digit_value : ℕ → ℕ
digit_value b = if ltb b 97 then b - 48 else b - 87

-- the number that v and the digits after it make in a base
abbrev pub digits_value : ℕ → ℕ → List ℕ → ℕ
digits_value base v [] = v
digits_value base v (b ∷ bs) = digits_value base (v * base + digit_value b) bs
