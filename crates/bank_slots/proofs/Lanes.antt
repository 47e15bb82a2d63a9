-- The four lanes: whether one took its buffer, and the marks of the first ones turned.
-- Assumes nothing.
use Rattle.std.proofs.Common.{◌≡◌, ℕ, zero, suc, ◌+◌, ◌-◌, ◌<◌, ◌≤◌, not, List, [], ◌∷◌, ◌++◌, length, take, set, get_or, refl, sym, ap, ◌∙◌, arith}
use Rattle.std.proofs.lemmas.List.{set-append_left, set-append_right, get_or_append_left, get_or-append_right, length-take-le}
use borrow.Rule.Slice.PartMut.{put_mid, post_of}
use Rattle.std.specs.List.{position}
use Rattle.dshot_bank_spec.specs.Lanes.{each}
use Rattle.bank_slots_spec.specs.Memory.{at}
use Rattle.bank_slots_spec.specs.Places.{slots, IN_SECOND}
use Rattle.bank_slots_spec.specs.Load.{flag}
use Rattle.bank_slots_spec.specs.Store.{bit}
use Rattle.bank_slots_spec.specs.Moves.{Moves, on_core}
use Rattle.bank_slots_spec.specs.Arguments.{taken}
use Rattle.bank_slots_spec.specs.Parts.{marks_turned}
use Rattle.bank_slots_spec.proofs.SendMoves.{marks-turned}

-- the first lane that did not take its buffer
pub first_refused_is : (xs : List ℕ) → 4 ≤ length xs → position (λ (n : ℕ). not (flag n)) (take 4 xs) ≡ position not (taken xs)
first_refused_is [] h = absurd (omega arith)
first_refused_is (a ∷ []) h = absurd (omega arith)
first_refused_is (a ∷ b ∷ []) h = absurd (omega arith)
first_refused_is (a ∷ b ∷ c ∷ []) h = absurd (omega arith)
first_refused_is (a ∷ b ∷ c ∷ d ∷ xs) h = refl

abbrev pub mark_turned : ℕ → List ℕ → List ℕ
mark_turned lane xs = set xs (IN_SECOND + lane) (bit (not (flag (at xs (IN_SECOND + lane)))))

-- a mark turned in the marks' part of the slots
pub part_turned : (k i v : ℕ) (xs ys : List ℕ) → IN_SECOND ≤ length xs → i < length ys → v ≡ bit (not (flag (get_or ys i 0))) → put_mid IN_SECOND k xs (set ys i v) ≡ mark_turned i (put_mid IN_SECOND k xs ys)
part_turned k i v xs ys h l e =
    let size : length (take IN_SECOND xs) ≡ IN_SECOND = length-take-le IN_SECOND xs h in
    let rest = ys ++ post_of IN_SECOND k xs in
    let back : IN_SECOND + i - IN_SECOND ≡ i = omega arith in
    let held : at (put_mid IN_SECOND k xs ys) (IN_SECOND + i) ≡ get_or ys i 0 =
    get_or-append_right (take IN_SECOND xs) rest IN_SECOND (IN_SECOND + i) 0 size (omega arith) ∙ ap (λ (j : ℕ). get_or rest j 0) back ∙ get_or_append_left ys (post_of IN_SECOND k xs) 0 i l in
    let written : set (put_mid IN_SECOND k xs ys) (IN_SECOND + i) v ≡ put_mid IN_SECOND k xs (set ys i v) =
    set-append_right (take IN_SECOND xs) rest IN_SECOND (IN_SECOND + i) v size (omega arith)
    ∙ ap (λ (j : ℕ). take IN_SECOND xs ++ set rest j v) back
    ∙ ap (λ (z : List ℕ). take IN_SECOND xs ++ z) (set-append_left ys (post_of IN_SECOND k xs) i v l) in
    sym written ∙ ap (set (put_mid IN_SECOND k xs ys) (IN_SECOND + i)) (e ∙ ap (λ (n : ℕ). bit (not (flag n))) (sym held))

pub first-turned : (xs : List ℕ) → length xs ≡ slots → (turned : ℕ) → turned ≤ 4 → Moves (on_core (marks_turned turned)) xs (each turned mark_turned xs)
unfolding each
first-turned xs n zero h = marks-turned xs _ _ _ _ n 0 refl refl refl refl
first-turned xs n (suc zero) h = marks-turned xs _ _ _ _ n 1 refl refl refl refl
first-turned xs n (suc (suc zero)) h = marks-turned xs _ _ _ _ n 2 refl refl refl refl
first-turned xs n (suc (suc (suc zero))) h = marks-turned xs _ _ _ _ n 3 refl refl refl refl
first-turned xs n (suc (suc (suc (suc zero)))) h = marks-turned xs _ _ _ _ n 4 refl refl refl refl
first-turned xs n (suc (suc (suc (suc (suc k))))) h = absurd (omega arith)
