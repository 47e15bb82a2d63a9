-- The numbers of words.
-- Assumes nothing.
use Rattle.std.proofs.Common.{◌≡◌, ℕ, zero, suc, ◌≤◌, ◌<◌, ◌⊎◌, inl, inr, Bool, true, false, Option, Some, None, List, [], ◌∷◌, length, map, get_or, drop, ltb, if◌then◌else◌, IfSome, IfNone, refl, ap, sym, subst, ◌∙◌, arith, lt-ltb, le-ltb}
use Rattle.std.proofs.lemmas.List.{length-map}
use Rattle.std.proofs.lemmas.Simd.{map-map}
use Rattle.std.proofs.lemmas.Iterator.{YieldsList}
use Rattle.std.proofs.lemmas.Iterator.Consumers.{YieldsList-turn, YieldsList-end}
use Rattle.std.specs.Iterator.{Drains, YieldsThen}
use Rattle.std.specs.Option.{option_map}
use denote.Ref.{Bor}
use Rattle.case_text.specs.Numbers.{whole_number, number_before, numbers_of, numbers_within}

-- the first of a list, or else d
abbrev first_or : Option ℕ → List (Option ℕ) → Option ℕ
first_or d [] = d
first_or d (x ∷ xs) = x

-- words that are numbers, one by one
numbers_of-all : (words : List (List ℕ)) (ns : List ℕ) → map whole_number words ≡ map Some ns → numbers_of words ≡ Some ns
numbers_of-all [] [] h = refl
numbers_of-all [] (n ∷ ns) h = absurd (omega (arith, ap length h))
numbers_of-all (word ∷ words) [] h = absurd (omega (arith, ap length h))
numbers_of-all (word ∷ words) (n ∷ ns) h = ap (λ o. number_before o (numbers_of words)) (ap (first_or None) h) ∙ ap (number_before (Some n)) (numbers_of-all words ns (ap (drop 1) h))

-- without the numbers after it, a number is none
missing_after : (o : Option ℕ) → number_before o None ≡ None
missing_after None = refl
missing_after (Some n) = refl

-- a word that is no number
numbers_of-missing : (words : List (List ℕ)) (i : ℕ) (d : List ℕ) → i < length words → whole_number (get_or words i d) ≡ None → numbers_of words ≡ None
numbers_of-missing [] i d l h = absurd (omega arith)
numbers_of-missing (word ∷ words) zero d l h = ap (λ o. number_before o (numbers_of words)) h
numbers_of-missing (word ∷ words) (suc i) d l h = ap (number_before (whole_number word)) (numbers_of-missing words i d (omega arith) h) ∙ missing_after (whole_number word)

-- so many words that are numbers
all_read : (n : ℕ) (words : List (List ℕ)) (ns : List ℕ) → length words ≤ n → map whole_number words ≡ map Some ns → numbers_within n words ≡ Some ns
unfolding numbers_within
all_read n words ns l h = ap (λ t. if t then None else numbers_of words) (le-ltb n (length words) l) ∙ numbers_of-all words ns h

either_none : (t : Bool) (o : Option (List ℕ)) → o ≡ None → (if t then None else o) ≡ None
either_none true o e = refl
either_none false o e = e

-- words of which one is too many or no number
one_refused : (n : ℕ) (words : List (List ℕ)) (i : ℕ) (d : List ℕ) → i < length words → (i ≡ n) ⊎ (whole_number (get_or words i d) ≡ None) → numbers_within n words ≡ None
unfolding numbers_within
one_refused n words i d l (inl e) = ap (λ t. if t then None else numbers_of words) (lt-ltb n (length words) (omega arith))
one_refused n words i d l (inr e) = either_none (ltb n (length words)) (numbers_of words) (numbers_of-missing words i d l e)

-- what `read_each` ensures, where the iterator gives these words
pub read_from_yields_List : {S V : Type 0} {steps : S → Option (Bor (List ℕ)) → S → Type 0} {s : S} {words : List (List ℕ)} (n : ℕ) (items : V → List ℕ) (r : Option V) → YieldsList steps (λ w. w.now) s words
    → IfSome r (λ v. length (items v) ≤ n)
    → IfSome r (λ v. (ws : List (Bor (List ℕ))) × Drains steps s ws × (map (λ w. whole_number w.now) ws ≡ map Some (items v)))
    → IfNone r ((ws : List (Bor (List ℕ))) × (w : Bor (List ℕ)) × (rest : S) × YieldsThen steps s ws (Some w) rest × ((length ws ≡ n) ⊎ (whole_number w.now ≡ None)))
    → option_map items r ≡ numbers_within n words
read_from_yields_List {words = words} n items (Some v) road few read refused =
    let (ws, drains, numbers) = read in
    let (u, (t, yields, ends)) = drains in
    let seen = YieldsList-end road ws t yields None u refl ends in
    sym (all_read n words (items v) (omega (arith, few, seen.1, ap length numbers, length-map ws (λ w. whole_number w.now), length-map (items v) Some)) (ap (map whole_number) (sym seen.0) ∙ map-map whole_number (λ w. w.now) ws ∙ numbers))
read_from_yields_List {words = words} n items None road few read refused =
    let (ws, w, rest, at, why) = refused in
    let (t, yields, step) = at in
    let turn = YieldsList-turn road ws t yields (Some w) rest w refl step in
    sym (one_refused n words (length ws) w.now turn.0 (subst (λ x. (length ws ≡ n) ⊎ (whole_number x ≡ None)) turn.1 why))
