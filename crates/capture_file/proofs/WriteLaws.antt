-- Lists that replace parts of a buffer: one store after the other, and one list after the other.
-- Assumes nothing.
use mathlib.Core.Path.{◌≡◌, refl, sym, ap, ◌∙◌}
use mathlib.Core.List.{List, [], ◌∷◌, ◌++◌, append_assoc, append-nil}
use Prim.Native.Nat.{ℕ, suc, ◌+◌, ◌/◌, ◌%◌, ◌≤◌, ◌<◌}
use native.Mathlib.Omega.{arith}
use native.Mathlib.Nat.{add-zero, zero-add}
use native.Mathlib.Numerals.{add-one, add-two}
use lib.ListN.{length, take, drop, set, get_or, length-append, length-set, take-append-drop, drop_of_length-le}
use lib.Seq.{drop-cons, sets-eq, take_at, drop_at, drop-drop, length-take-le}
use Rattle.capture_file.proofs.NumberLaws.{groups-one, groups-two, groups-three, one-length, two-length, three-length}
use Rattle.capture_file.specs.Groups.{groups}
use Rattle.capture_file.specs.File.{all_groups, front}
use Rattle.capture_file.specs.FileSteps.{put}

-- ---- stores

module _ (l : List ℕ) (at : ℕ) where
  pub put_one : (a : ℕ) → at + 1 ≤ length l → set l at a ≡ put at (a ∷ []) l
  put_one a h = sets-eq (a ∷ []) l at h

  pub put_two : (a b : ℕ) → at + 2 ≤ length l → set (set l at a) (at + 1) b ≡ put at (a ∷ b ∷ []) l
  put_two a b h = ap (λ (i : ℕ). set (set l at a) i b) (add-one at) ∙ sets-eq (a ∷ b ∷ []) l at h

  pub put_three : (a b d : ℕ) → at + 3 ≤ length l → set (set (set l at a) (at + 1) b) (at + 2) d ≡ put at (a ∷ b ∷ d ∷ []) l
  put_three a b d h =
      ap (λ (i : ℕ). set (set (set l at a) i b) (at + 2) d) (add-one at)
      ∙ ap (λ (i : ℕ). set (set (set l at a) (suc at) b) i d) (add-two at)
      ∙ sets-eq (a ∷ b ∷ d ∷ []) l at h

-- ---- the groups of a number

module _ (l : List ℕ) (at v : ℕ) (fits : at + length (groups v) ≤ length l) where
  pub put-one-group : v < 128 → set l at v ≡ put at (groups v) l
  put-one-group h = let g = groups-one v h in rw g (put_one l at v (rw g at fits))

  pub put-two-groups : 128 ≤ v → v < 16384 → set (set l at (128 + v % 128)) (at + 1) (v / 128) ≡ put at (groups v) l
  put-two-groups h k = let g = groups-two v h k in rw g (put_two l at (128 + v % 128) (v / 128) (rw g at fits))

  pub put-three-groups : 16384 ≤ v
      → set (set (set l at (128 + v % 128)) (at + 1) (128 + v / 128 % 128)) (at + 2) (v / 16384) ≡ put at (groups v) l
  put-three-groups h = let g = groups-three v h in rw g (put_three l at (128 + v % 128) (128 + v / 128 % 128) (v / 16384) (rw g at fits))

-- for the goals of `number::put_number`
pub ruleset put_cases = (one-length, two-length, three-length, length-set, put-one-group, put-two-groups, put-three-groups)

-- ---- one list after the other

pub put-put : (at : ℕ) (g t l : List ℕ) → at ≤ length l → put (at + length g) t (put at g l) ≡ put at (g ++ t) l
put-put at g t l h =
    let p = take at l ++ g in
    let rest = drop (at + length g) l in
    let len = length-append (take at l) g ∙ ap (λ (n : ℕ). n + length g) (length-take-le at l h) in
    let n = at + length g + length t in
    let seen = drop-drop (length t) (at + length g) in
    let back : drop n (p ++ rest) ≡ drop n l = sym (seen (p ++ rest)) ∙ ap (drop (length t)) (drop_at p rest (at + length g) len) ∙ seen l in
    let all : n ≡ at + length (g ++ t) = omega (arith, length-append g t) in
    ap (λ (x : List ℕ). x ++ t ++ drop n (p ++ rest)) (take_at p rest (at + length g) len)
    ∙ ap (λ (x : List ℕ). p ++ t ++ x) back
    ∙ ap (λ (k : ℕ). p ++ t ++ drop k l) all
    ∙ ap (λ (x : List ℕ). x ++ drop (at + length (g ++ t)) l) (append_assoc (take at l) g t)

pub put-none : (at : ℕ) (l : List ℕ) → put at [] l ≡ l
put-none at l =
    ap (λ (k : ℕ). take at l ++ [] ++ drop k l) (add-zero at) ∙ ap (λ (x : List ℕ). x ++ drop at l) (append-nil (take at l)) ∙ take-append-drop at l

pub put_first : (xs l : List ℕ) → put 0 xs l ≡ front l xs
put_first xs l = ap (λ (k : ℕ). xs ++ drop k l) (zero-add (length xs))

-- ---- the groups of numbers, one number after the other

pub all_groups-append : (xs ys : List ℕ) → all_groups (xs ++ ys) ≡ all_groups xs ++ all_groups ys
all_groups-append [] ys = refl
all_groups-append (x ∷ xs) ys = rw (all_groups-append xs ys) (sym (append_assoc (groups x) (all_groups xs) (all_groups ys)))

-- the bytes of the numbers from i on are still to be put from place `at` on; then the buffer is `goal` and its bytes end at `end`
pub record Ahead (goal : List ℕ) (end : ℕ) (now : List ℕ) (at : ℕ) (numbers : List ℕ) (i : ℕ) : Type 0 where
  pub left : at + length (all_groups (drop i numbers)) ≡ end
  pub whole : put at (all_groups (drop i numbers)) now ≡ goal
  pub room : end ≤ length now

module _ {goal : List ℕ} {end : ℕ} {now : List ℕ} {at : ℕ} {numbers : List ℕ} {i : ℕ} (a : Ahead goal end now at numbers i) where
  -- the groups from number i on: those of the number, then the others'
  next-groups : i < length numbers → all_groups (drop i numbers) ≡ groups (get_or numbers i 0) ++ all_groups (drop (i + 1) numbers)
  next-groups h = ap all_groups (drop-cons numbers i 0 h ∙ ap (λ (k : ℕ). get_or numbers i 0 ∷ drop k numbers) (sym (add-one i)))

  pub ahead-fits : i < length numbers → at + length (groups (get_or numbers i 0)) ≤ length now
  ahead-fits h = omega (arith, a.left, a.room, ap length (next-groups h), length-append {A = ℕ})

  pub ahead_more : {after : List ℕ} {next : ℕ} → i < length numbers → next ≡ at + length (groups (get_or numbers i 0))
      → after ≡ put at (groups (get_or numbers i 0)) now → length after ≡ length now → Ahead goal end after next numbers (i + 1)
  ahead_more {after} h q e l =
      let g = groups (get_or numbers i 0) in
      let t = all_groups (drop (i + 1) numbers) in
      record {
        left = omega (arith, a.left, q, ap length (next-groups h), length-append g t);
        whole = rw (q, e) (put-put at g t now (omega (arith, ahead-fits h)) ∙ rw next-groups at a.whole);
        room = omega (arith, a.room, l);
      }

  pub ahead-end : length numbers ≤ i → (at ≡ end) × (now ≡ goal)
  ahead-end h =
      let none : all_groups (drop i numbers) ≡ [] = ap all_groups (drop_of_length-le numbers h) in
      (omega (arith, a.left, ap length none), sym (put-none at now) ∙ rw none at a.whole)

-- for the goals of `file::put_numbers`
pub ruleset ahead_cases = (ahead-fits, ahead-end)
