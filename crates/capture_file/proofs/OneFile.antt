-- If bytes read as a capture, they are the file of that capture.
-- Assumes nothing.
use mathlib.Core.Path.{◌≡◌, refl, sym, ap, ◌∙◌, subst}
use mathlib.Core.Bool.{Bool, true, false}
use mathlib.Core.List.{List, [], ◌∷◌, ◌++◌}
use Prim.Native.Nat.{ℕ, zero, suc, ◌≤◌}
use native.Mathlib.Omega.{arith}
use lib.Dec.{eqb}
use lib.ListN.{length}
use borrow.Author.Tests.{eqb-true, eqb-false}
use Rattle.dshot_reply_spec.specs.Answer.{given, pick}
use Rattle.dshot_reply_spec.proofs.Choice.{not-both}
use Rattle.dshot_reply_spec.proofs.Given.{then-given}
use Rattle.capture_file.proofs.AnswerLaws.{same-given}
use Rattle.capture_file.proofs.NumberLaws.{number-written}
use Rattle.capture_file.proofs.HeadLaws.{parts}
use Rattle.capture_file.specs.Groups.{groups, Headed, read_number, read_all}
use Rattle.capture_file.specs.File.{file_samples, Capture, UpTo, Valid, all_groups, file_of}
use Rattle.capture_file.specs.File.{Head, read_head, read_file}

up-to-rest : (n : ℕ) (xs ys : List ℕ) → UpTo n (xs ++ ys) → UpTo n ys
up-to-rest n [] ys u = u
up-to-rest n (x ∷ xs) ys u = up-to-rest n xs ys u.1

-- a number that was read, and the bytes after it
number-rest : (bytes : List ℕ) (r : Headed) → UpTo 255 bytes → read_number bytes ≡ given r
    → (bytes ≡ groups r.number ++ r.rest) × (r.number ≤ 65535) × UpTo 255 r.rest
number-rest bytes r u e =
    let w = number-written bytes r u e in
    (w.0, w.1, up-to-rest 255 (groups r.number) r.rest (subst (UpTo 255) w.0 u))

-- ---- the samples

abbrev AllWritten : ℕ → List ℕ → List ℕ → Type 0
AllWritten n bytes xs = (bytes ≡ all_groups xs) × (length xs ≡ n) × UpTo 65535 xs

all-written : (n : ℕ) (bytes : List ℕ) (xs : List ℕ) → UpTo 255 bytes → read_all n bytes ≡ given xs → AllWritten n bytes xs
all-written zero [] xs u e = subst (AllWritten zero []) (same-given e) (refl, refl, tt)
all-written zero (b ∷ s) xs u e = absurd (not-both e refl)
all-written (suc n) bytes xs u e =
    let t = then-given (read_number bytes) _ e in
    let r = t.0 in
    let q = then-given (read_all n r.rest) _ t.2 in
    let w = number-rest bytes r u t.1 in
    let a = all-written n r.rest q.0 w.2 q.1 in
    let all = w.0 ∙ ap (λ (s : List ℕ). groups r.number ++ s) a.0 in
    subst (AllWritten (suc n) bytes) (same-given q.2) (all, ap suc a.1, (w.1, a.2))

-- ---- what stands before them

flag-only : (n : ℕ) → n ≤ 1 → pick (eqb n 1) 1 0 ≡ n
flag-only n h = go (eqb n 1) refl
  where
    go : (b : Bool) → eqb n 1 ≡ b → pick b 1 0 ≡ n
    go true e = sym (eqb-true n 1 e)
    go false e = let no_one = eqb-false n 1 e in omega arith

abbrev HeadWritten : List ℕ → Head → Type 0
HeadWritten bytes h =
    (bytes ≡ groups h.count ++ (groups h.mask ++ (groups (pick h.edt 1 0) ++ h.rest)))
    × (h.count ≤ file_samples) × (h.mask ≤ 65535) × UpTo 255 h.rest

head-written : (bytes : List ℕ) (h : Head) → UpTo 255 bytes → read_head bytes ≡ given h → HeadWritten bytes h
head-written bytes h u e =
    let p = parts bytes h e in
    let count = number-rest bytes p.count u p.count-read in
    let mask = number-rest p.count.rest p.mask count.2 p.mask-read in
    let edt = number-rest p.mask.rest p.edt mask.2 p.edt-read in
    let flag = ap (λ (k : ℕ). groups k ++ p.edt.rest) (sym (flag-only p.edt.number p.flag)) in
    let after = mask.0 ∙ ap (λ (s : List ℕ). groups p.mask.number ++ s) (edt.0 ∙ flag) in
    let all = count.0 ∙ ap (λ (s : List ℕ). groups p.count.number ++ s) after in
    subst (HeadWritten bytes) p.same (all, p.few, mask.1, edt.2)

-- ---- the whole file

abbrev FileWritten : List ℕ → Capture → Type 0
FileWritten bytes c = (bytes ≡ file_of c) × Valid c

pub file-written : (bytes : List ℕ) (c : Capture) → UpTo 255 bytes → read_file bytes ≡ given c → FileWritten bytes c
unfolding read_file file_of
file-written bytes c u e =
    let t = then-given (read_head bytes) _ e in
    let h = t.0 in
    let q = then-given (read_all h.count h.rest) _ t.2 in
    let w = head-written bytes h u t.1 in
    let a = all-written h.count h.rest q.0 w.3 q.1 in
    let before : List ℕ → List ℕ = λ s. groups h.mask ++ (groups (pick h.edt 1 0) ++ s) in
    let all = w.0 ∙ ap (λ (s : List ℕ). groups h.count ++ before s) a.0 ∙ ap (λ (k : ℕ). groups k ++ before (all_groups q.0)) (sym a.1) in
    subst (FileWritten bytes) (same-given q.2) (all, record { pins = w.2; count = rw (sym a.1) at w.1; each = a.2 })
