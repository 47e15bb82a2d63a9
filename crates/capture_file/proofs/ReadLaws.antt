-- What a reader finds in bytes, group by group.
-- Assumes nothing.
use mathlib.Core.Path.{◌≡◌, refl, sym, ap, ◌∙◌}
use mathlib.Core.Logic.{⊎_elim}
use mathlib.Core.Bool.{Bool, true, false}
use mathlib.Core.List.{List, [], ◌∷◌}
use Prim.Native.Nat.{ℕ, ◌+◌, ◌-◌, ◌*◌, ◌≤◌, ◌<◌}
use native.Mathlib.Omega.{arith}
use lib.Dec.{eqb, ltb}
use lib.ListN.{length}
use borrow.Author.Tests.{eq-eqb, lt-ltb, le-ltb}
use Rattle.dshot_reply_spec.specs.Answer.{Answer, given, refused, and_then, pick}
use Rattle.dshot_reply_spec.specs.Refusals.{not_acapture}
use Rattle.dshot_reply_spec.proofs.Cases.{lt-or-ge}
use Rattle.capture_file.proofs.AnswerLaws.{same-given, Read, found, lacking, read-then, read-pick}
use Rattle.capture_file.proofs.NumberLaws.{last-group, longer, more-groups, longer-given, longer-from, pos}
use Rattle.capture_file.specs.Groups.{Headed, headed, read_groups, read_number}

-- ---- one, two or three groups

-- what becomes of an answer whose number may be of any size
abbrev bounded : Answer Headed → Answer Headed
bounded a = and_then a (λ r. pick (ltb 65535 r.number) (refused not_acapture) (given r))

number_is : (s : List ℕ) (a : Answer Headed) → read_groups s ≡ a → read_number s ≡ bounded a
unfolding read_number
number_is s a e = ap bounded e

small : (n : ℕ) (s : List ℕ) → n ≤ 65535 → bounded (given (headed n s)) ≡ given (headed n s)
small n s h = rw (le-ltb 65535 n h)

pub no-group : (s : List ℕ) → length s ≡ 0 → read_number s ≡ refused not_acapture
unfolding read_number
no-group [] h = refl
no-group (b ∷ s) h = absurd (omega arith)

pub one-group : (a : ℕ) (s : List ℕ) → a < 128 → read_number (a ∷ s) ≡ given (headed a s)
one-group a s h = number_is (a ∷ s) _ (last-group a s h) ∙ small a s (omega arith)

-- no number after a group with the top bit, or 0
cut-off : (a : ℕ) (s : List ℕ) → 128 ≤ a → length s ≡ 0 → read_groups (a ∷ s) ≡ refused not_acapture
cut-off a [] l h = more-groups a [] l
cut-off a (b ∷ s) l h = absurd (omega arith)

zero-next : (a b : ℕ) (s : List ℕ) → 128 ≤ a → b ≡ 0 → read_groups (a ∷ b ∷ s) ≡ refused not_acapture
zero-next a b s l e = more-groups a (b ∷ s) l ∙ ap (longer a) (last-group b s (omega arith)) ∙ rw (eq-eqb b 0 e)

pub no-second : (a : ℕ) (s : List ℕ) → 128 ≤ a → length s ≡ 0 → read_number (a ∷ s) ≡ refused not_acapture
no-second a s l h = number_is (a ∷ s) _ (cut-off a s l h)

pub zero-second : (a b : ℕ) (s : List ℕ) → 128 ≤ a → b ≡ 0 → read_number (a ∷ b ∷ s) ≡ refused not_acapture
zero-second a b s l e = number_is (a ∷ b ∷ s) _ (zero-next a b s l e)

pub two-groups : (a b : ℕ) (s : List ℕ) → 128 ≤ a → a ≤ 255 → 0 < b → b < 128
    → read_number (a ∷ b ∷ s) ≡ given (headed (a - 128 + 128 * b) s)
two-groups a b s l m n h =
    number_is (a ∷ b ∷ s) _ (more-groups a (b ∷ s) l ∙ ap (longer a) (last-group b s h) ∙ longer-given a b s (λ z. omega arith))
    ∙ small (a - 128 + 128 * b) s (omega arith)

pub no-third : (a b : ℕ) (s : List ℕ) → 128 ≤ a → 128 ≤ b → length s ≡ 0 → read_number (a ∷ b ∷ s) ≡ refused not_acapture
no-third a b s l k h = number_is (a ∷ b ∷ s) _ (more-groups a (b ∷ s) l ∙ ap (longer a) (cut-off b s k h))

pub zero-third : (a b d : ℕ) (s : List ℕ) → 128 ≤ a → 128 ≤ b → d ≡ 0 → read_number (a ∷ b ∷ d ∷ s) ≡ refused not_acapture
zero-third a b d s l k e = number_is (a ∷ b ∷ d ∷ s) _ (more-groups a (b ∷ d ∷ s) l ∙ ap (longer a) (zero-next b d s k e))

module _ (a b d : ℕ) (s : List ℕ) (l : 128 ≤ a) (k : 128 ≤ b) where
  pub three-groups : a ≤ 255 → b ≤ 255 → 0 < d → d ≤ 3
      → read_number (a ∷ b ∷ d ∷ s) ≡ given (headed (a - 128 + 128 * (b - 128 + 128 * d)) s)
  three-groups m o n h =
      let two : read_groups (b ∷ d ∷ s) ≡ given (headed (b - 128 + 128 * d) s) =
      more-groups b (d ∷ s) k ∙ ap (longer b) (last-group d s (omega arith)) ∙ longer-given b d s (λ z. omega arith) in
      number_is (a ∷ b ∷ d ∷ s) _ (more-groups a (b ∷ d ∷ s) l ∙ ap (longer a) two ∙ longer-given a (b - 128 + 128 * d) s (λ z. omega arith))
      ∙ small (a - 128 + 128 * (b - 128 + 128 * d)) s (omega arith)

-- ---- more than 65535

-- bytes start with a number, or are refused
pub groups-start : (s : List ℕ) → Read (read_groups s)
groups-start [] = lacking
groups-start (b ∷ s) = go (ltb b 128) (read-then _ (groups-start s) (λ r. read-pick (eqb r.number 0) (found _)))
  where
    go : {a : Answer Headed} (t : Bool) → Read a → Read (pick t (given (headed b s)) a)
    go true r = found _
    go false r = r

-- a number that bytes start with is at least n
abbrev AtLeast : ℕ → List ℕ → Type 0
AtLeast n s = (q : Headed) → read_groups s ≡ given q → n ≤ q.number

too_large : (s : List ℕ) → AtLeast 65536 s → read_number s ≡ refused not_acapture
too_large s least = number_is s _ refl ∙ go (read_groups s) refl (groups-start s)
  where
    go : (a : Answer Headed) → read_groups s ≡ a → Read a → bounded a ≡ refused not_acapture
    go a e (found q) = rw (lt-ltb 65535 q.number (least q e))
    go a e lacking = refl

-- a group in front of a number
in-front : (n b : ℕ) (s : List ℕ) → 128 ≤ b
    → ((q : Headed) → read_groups s ≡ given q → (q.number ≡ 0 → ⊥) → n ≤ q.number) → AtLeast (128 * n) (b ∷ s)
in-front n b s h least r e =
    let f = longer-from b (read_groups s) r (sym (more-groups b s h) ∙ e) in
    let m : n ≤ f.0.number = least f.0 f.1 f.2 in
    let same : b - 128 + 128 * f.0.number ≡ r.number = ap (λ (x : Headed). x.number) f.3 in
    omega arith

four : (d : ℕ) (s : List ℕ) → 3 < d → AtLeast 4 (d ∷ s)
four d s h q e =
    ⊎_elim
    (λ l. let same : d ≡ q.number = ap (λ (x : Headed). x.number) (same-given (sym (last-group d s l) ∙ e)) in omega arith)
    (λ l. omega (arith, in-front 1 d s l (λ r f z. pos r.number z) q e))
    (lt-or-ge d 128)

pub large-third : (a b d : ℕ) (s : List ℕ) → 128 ≤ a → 128 ≤ b → 3 < d → read_number (a ∷ b ∷ d ∷ s) ≡ refused not_acapture
large-third a b d s l k h =
    too_large (a ∷ b ∷ d ∷ s) (in-front 512 a (b ∷ d ∷ s) l (λ q e z. in-front 4 b (d ∷ s) k (λ r f y. four d s h r f) q e))

-- for the goals of `number::read_number`
pub ruleset number_cases = (no-group, one-group, no-second, zero-second, two-groups, no-third, zero-third, large-third, three-groups)
