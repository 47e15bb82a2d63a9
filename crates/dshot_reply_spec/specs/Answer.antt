-- What a call answers: what it was asked for, or the number of its refusal in document 01, and nothing else.
-- Assumes nothing.
use Rattle.std.specs.Prelude.{ℕ, ◌≤◌, ◌≡◌, Bool, true, false, List, if◌then◌else◌}

pub data Answer (A : Type 0) : Type 0 where
  given : A → Answer A
  refused : ℕ → Answer A

-- the next step of an answer that was given; a refusal stays as it is, as with Rust's `?`
abbrev pub and_then : {A B : Type 0} → Answer A → (A → Answer B) → Answer B
and_then (given a) next = next a
and_then (refused n) next = refused n

-- a, if the test holds; else b: the library's if, as a function
abbrev pub pick : {A : Type 0} → Bool → A → A → A
pick b x y = if b then x else y

-- whether something was given, as Rust's `is_ok`
abbrev pub is_given : {A : Type 0} → Answer A → Bool
is_given (given a) = true
is_given (refused n) = false

-- the number of a refusal; 0 if something was given
abbrev pub refusal_number : {A : Type 0} → Answer A → ℕ
refusal_number (given a) = 0
refusal_number (refused n) = n

-- what a lent buffer holds after a call: the slots of what was given; if the call is refused, what it held before
abbrev pub filled : {A : Type 0} → (A → List ℕ) → List ℕ → Answer A → List ℕ
filled slots out (given a) = slots a
filled slots out (refused n) = out

-- The answer is a refusal with one of 7 to 10 (no reply, overlong, invalid symbol, checksum), as of a damaged capture.
pub record Rejected {A : Type 0} (a : Answer A) : Type 0 where
  pub number : ℕ
  pub refusal : a ≡ refused number
  pub least : 7 ≤ number
  pub most : number ≤ 10
