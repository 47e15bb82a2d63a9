-- A number's groups read back as that number. A number is read only from its own groups.
-- Assumes nothing.
use mathlib.Core.Path.{◌≡◌, refl, sym, ap, ◌∙◌}
use mathlib.Core.Logic.{⊎_elim}
use mathlib.Core.List.{List, [], ◌∷◌, ◌++◌}
use Prim.Native.Nat.{ℕ, ◌+◌, ◌-◌, ◌*◌, ◌/◌, ◌%◌, ◌≤◌, ◌<◌}
use native.Mathlib.Omega.{arith}
use lib.Dec.{eqb, ltb}
use lib.ListN.{length}
use borrow.Author.Tests.{eqb-false, ltb-false, ne_eqb, lt-ltb, le-ltb}
use Rattle.dshot_reply_spec.specs.Answer.{Answer, given, refused, and_then, pick}
use Rattle.dshot_reply_spec.specs.Refusals.{not_acapture}
use Rattle.dshot_reply_spec.proofs.Cases.{lt-or-ge}
use Rattle.dshot_reply_spec.proofs.Choice.{not-both}
use Rattle.dshot_reply_spec.proofs.Given.{second-given, then-given}
use Rattle.capture_file.proofs.AnswerLaws.{same-given}
use Rattle.capture_file.specs.Groups.{groups, Headed, headed, read_groups, read_number}
use Rattle.capture_file.specs.File.{UpTo}

-- ---- the groups of a number

pub groups-one : (n : ℕ) → n < 128 → groups n ≡ n ∷ []
unfolding groups
groups-one n h = rw (lt-ltb n 128 h)

pub groups-two : (n : ℕ) → 128 ≤ n → n < 16384 → groups n ≡ (128 + n % 128) ∷ n / 128 ∷ []
unfolding groups
groups-two n l h = rw (le-ltb n 128 l, lt-ltb n 16384 h)

pub groups-three : (n : ℕ) → 16384 ≤ n → groups n ≡ (128 + n % 128) ∷ (128 + n / 128 % 128) ∷ n / 16384 ∷ []
unfolding groups
groups-three n l = rw (le-ltb n 128 (omega arith), le-ltb n 16384 l)

-- the first group of several, and the groups of what is left
pub groups-more : (n : ℕ) → 128 ≤ n → n ≤ 65535 → groups n ≡ (128 + n % 128) ∷ groups (n / 128)
groups-more n l h = ⊎_elim two three (lt-or-ge n 16384)
  where
    two : n < 16384 → groups n ≡ (128 + n % 128) ∷ groups (n / 128)
    two s = groups-two n l s ∙ ap (λ (g : List ℕ). (128 + n % 128) ∷ g) (sym (groups-one (n / 128) (omega arith)))

    three : 16384 ≤ n → groups n ≡ (128 + n % 128) ∷ groups (n / 128)
    three s =
        let e : n / 128 / 128 ≡ n / 16384 = omega arith in
        let rest = groups-two (n / 128) (omega arith) (omega arith) ∙ ap (λ (q : ℕ). (128 + n / 128 % 128) ∷ q ∷ []) e in
        groups-three n s ∙ ap (λ (g : List ℕ). (128 + n % 128) ∷ g) (sym rest)

-- one to three groups
pub one-length : (n : ℕ) → n < 128 → length (groups n) ≡ 1
one-length n h = ap length (groups-one n h)

pub two-length : (n : ℕ) → 128 ≤ n → n < 16384 → length (groups n) ≡ 2
two-length n l h = ap length (groups-two n l h)

pub three-length : (n : ℕ) → 16384 ≤ n → length (groups n) ≡ 3
three-length n l = ap length (groups-three n l)

pub groups-count : (n : ℕ) → (0 < length (groups n)) × (length (groups n) ≤ 3)
groups-count n = grind (arith, one-length, two-length, three-length)

pub groups-short : (n : ℕ) → n < 16384 → length (groups n) ≤ 2
groups-short n h = grind (arith, one-length, two-length)

-- ---- reading one group

-- a group below 128 is the last
pub last-group : (b : ℕ) (s : List ℕ) → b < 128 → read_groups (b ∷ s) ≡ given (headed b s)
last-group b s h = rw (lt-ltb b 128 h)

-- what a group with the top bit makes of the number after it
abbrev pub longer : ℕ → Answer Headed → Answer Headed
longer b a = and_then a (λ r. pick (eqb r.number 0) (refused not_acapture) (given (headed (b - 128 + 128 * r.number) r.rest)))

pub more-groups : (b : ℕ) (s : List ℕ) → 128 ≤ b → read_groups (b ∷ s) ≡ longer b (read_groups s)
more-groups b s h = rw (le-ltb b 128 h)

pub longer-given : (b n : ℕ) (s : List ℕ) → (n ≡ 0 → ⊥) → longer b (given (headed n s)) ≡ given (headed (b - 128 + 128 * n) s)
longer-given b n s h = rw (ne_eqb n 0 h)

-- ---- a number's groups read back

read_more : (n : ℕ) (s : List ℕ) → 128 ≤ n → n ≤ 65535 → read_groups (groups (n / 128) ++ s) ≡ given (headed (n / 128) s)
    → read_groups (groups n ++ s) ≡ given (headed n s)
read_more n s l h e =
    ap (λ (g : List ℕ). read_groups (g ++ s)) (groups-more n l h)
    ∙ more-groups (128 + n % 128) (groups (n / 128) ++ s) (omega arith)
    ∙ ap (longer (128 + n % 128)) e
    ∙ longer-given (128 + n % 128) (n / 128) s (λ z. omega arith)
    ∙ ap (λ (k : ℕ). given (headed k s)) (omega arith)

read_one : (n : ℕ) (s : List ℕ) → n < 128 → read_groups (groups n ++ s) ≡ given (headed n s)
read_one n s h = ap (λ (g : List ℕ). read_groups (g ++ s)) (groups-one n h) ∙ last-group n s h

read-two : (n : ℕ) (s : List ℕ) → n < 16384 → read_groups (groups n ++ s) ≡ given (headed n s)
read-two n s h = ⊎_elim (read_one n s) (λ l. read_more n s l (omega arith) (read_one (n / 128) s (omega arith))) (lt-or-ge n 128)

read-groups : (n : ℕ) (s : List ℕ) → n ≤ 65535 → read_groups (groups n ++ s) ≡ given (headed n s)
read-groups n s h = ⊎_elim (read_one n s) (λ l. read_more n s l h (read-two (n / 128) s (omega arith))) (lt-or-ge n 128)

pub number_read : (n : ℕ) (s : List ℕ) → n ≤ 65535 → read_number (groups n ++ s) ≡ given (headed n s)
unfolding read_number
number_read n s h =
    ap (λ (a : Answer Headed). and_then a (λ r. pick (ltb 65535 r.number) (refused not_acapture) (given r))) (read-groups n s h)
    ∙ rw (le-ltb 65535 n h)

-- ---- a number is read from its own groups

-- the number that was read after a first group of several
pub longer-from : (b : ℕ) (a : Answer Headed) (r : Headed) → longer b a ≡ given r
    → (q : Headed) × (a ≡ given q) × (q.number ≡ 0 → ⊥) × (headed (b - 128 + 128 * q.number) q.rest ≡ r)
longer-from b a r e =
    let t = then-given a _ e in
    let p = second-given not_acapture (eqb t.0.number 0) t.2 in
    (t.0, t.1, eqb-false t.0.number 0 p.0, same-given p.1)

pub pos : (n : ℕ) → (n ≡ 0 → ⊥) → 0 < n
pos n h = ⊎_elim (λ l. absurd (h (omega arith))) (λ l. l) (lt-or-ge n 1)

-- a first byte, if what holds of all holds of the bytes after it
first_group : (b : ℕ) (s : List ℕ) (r : Headed) → b ≤ 255 → read_groups (b ∷ s) ≡ given r → r.number ≤ 65535
    → ((q : Headed) → read_groups s ≡ given q → q.number ≤ 65535 → s ≡ groups q.number ++ q.rest) → b ∷ s ≡ groups r.number ++ r.rest
first_group b s r u e h again = ⊎_elim one more (lt-or-ge b 128)
  where
    one : b < 128 → b ∷ s ≡ groups r.number ++ r.rest
    one l =
        let q : headed b s ≡ r = same-given (sym (last-group b s l) ∙ e) in
        ap (λ (g : List ℕ). g ++ s) (sym (groups-one b l)) ∙ ap (λ (x : Headed). groups x.number ++ x.rest) q

    more : 128 ≤ b → b ∷ s ≡ groups r.number ++ r.rest
    more l =
        let f = longer-from b (read_groups s) r (sym (more-groups b s l) ∙ e) in
        let q = f.0 in
        let n = b - 128 + 128 * q.number in
        let same : n ≡ r.number = ap (λ (x : Headed). x.number) f.3 in
        let some : 0 < q.number = pos q.number f.2 in
        let low : 128 + n % 128 ≡ b = omega (arith, u) in
        let high : n / 128 ≡ q.number = omega (arith, u) in
        let g : groups n ≡ b ∷ groups q.number =
        groups-more n (omega arith) (omega arith) ∙ ap (λ (x : ℕ). x ∷ groups (n / 128)) low ∙ ap (λ (x : ℕ). b ∷ groups x) high in
        ap (λ (t : List ℕ). b ∷ t) (again q f.1 (omega arith))
        ∙ ap (λ (t : List ℕ). t ++ q.rest) (sym g)
        ∙ ap (λ (x : Headed). groups x.number ++ x.rest) f.3

written-groups : (bytes : List ℕ) (r : Headed) → UpTo 255 bytes → read_groups bytes ≡ given r → r.number ≤ 65535
    → bytes ≡ groups r.number ++ r.rest
written-groups [] r u e h = absurd (not-both e refl)
written-groups (b ∷ s) r u e h = first_group b s r u.0 e h (λ q f l. written-groups s q u.1 f l)

pub number-written : (bytes : List ℕ) (r : Headed) → UpTo 255 bytes → read_number bytes ≡ given r
    → (bytes ≡ groups r.number ++ r.rest) × (r.number ≤ 65535)
unfolding read_number
number-written bytes r u e =
    let t = then-given (read_groups bytes) _ e in
    let p = second-given not_acapture (ltb 65535 t.0.number) t.2 in
    let q : read_groups bytes ≡ given r = t.1 ∙ p.1 in
    let same : t.0.number ≡ r.number = ap (λ (x : Headed). x.number) (same-given p.1) in
    let small : r.number ≤ 65535 = rw same at (ltb-false 65535 t.0.number p.0) in
    (written-groups bytes r u q small, small)
