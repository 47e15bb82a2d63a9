-- A quotient rounded to the nearest, halves up, as document 01 asks. Stands for the Rust's `div_round`.
-- Assumes nothing.
use Rattle.std.specs.Prelude.{ℕ, ◌+◌, ◌/◌}

abbrev pub nearest : ℕ → ℕ → ℕ
nearest a b = (a + b / 2) / b
