-- The file of a capture reads back as that capture, and is no longer than the longest file.
-- Assumes nothing.
use mathlib.Core.Path.{◌≡◌, refl, ap}
use mathlib.Core.Bool.{Bool, true, false}
use mathlib.Core.List.{List, [], ◌∷◌, ◌++◌}
use Prim.Native.Nat.{ℕ, ◌*◌, ◌≤◌}
use native.Mathlib.Omega.{arith}
use lib.Dec.{eqb}
use lib.ListN.{length, length-append}
use borrow.Author.Tests.{le-ltb}
use Rattle.dshot_reply_spec.specs.Answer.{given, pick}
use Rattle.capture_file.proofs.NumberLaws.{groups-one, groups-count, groups-short, number_read}
use Rattle.capture_file.specs.Groups.{groups, read_all}
use Rattle.capture_file.specs.File.{file_samples, file_bytes, read_head, read_file}
use Rattle.capture_file.specs.File.{Capture, UpTo, Valid, all_groups, file_of}

-- ---- the samples

pub all_read : (xs : List ℕ) → UpTo 65535 xs → read_all (length xs) (all_groups xs) ≡ given xs
all_read [] u = refl
all_read (x ∷ xs) u = rw (number_read x (all_groups xs) u.0, all_read xs u.1)

-- ---- what stands before them

flag_small : (b : Bool) → pick b 1 0 ≤ 1
flag_small true = omega arith
flag_small false = omega arith

flag-back : (b : Bool) → eqb (pick b 1 0) 1 ≡ b
flag-back true = refl
flag-back false = refl

module _ (count mask : ℕ) (edt : Bool) (rest : List ℕ) where
  pub head_read : count ≤ 4096 → mask ≤ 65535
      → read_head (groups count ++ (groups mask ++ (groups (pick edt 1 0) ++ rest)))
      ≡ given (record { count = count; mask = mask; edt = edt; rest = rest })
  unfolding read_head
  head_read h m =
      let flag : ℕ = pick edt 1 0 in
      rw (
        number_read count (groups mask ++ (groups flag ++ rest)) (omega arith),
        number_read mask (groups flag ++ rest) m,
        number_read flag rest (omega (arith, flag_small edt)),
        le-ltb 4096 count h,
        le-ltb 1 flag (flag_small edt),
        flag-back edt,
      )

-- ---- the whole file

pub file-read : (c : Capture) → Valid c → read_file (file_of c) ≡ given c
unfolding read_file file_of
file-read c v =
    let head = head_read (length c.samples) c.mask c.edt (all_groups c.samples) v.count v.pins in
    rw (head, all_read c.samples v.each)

pub all_most : (xs : List ℕ) → length (all_groups xs) ≤ 3 * length xs
all_most [] = omega arith
all_most (x ∷ xs) = rw (length-append (groups x) (all_groups xs)) (omega (arith, (groups-count x).1, all_most xs))

pub file-most : (c : Capture) → length c.samples ≤ file_samples → length (file_of c) ≤ file_bytes
unfolding file_of
file-most c h =
    let flag : ℕ = pick c.edt 1 0 in
    let count = groups-short (length c.samples) (omega arith) in
    let one = groups-one flag (omega (arith, flag_small c.edt)) in
    simp length-append (omega (arith, count, (groups-count c.mask).1, ap length one, all_most c.samples))
