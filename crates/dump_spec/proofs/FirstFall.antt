-- Times and changes break just at the first time that is smaller than the one before it, or where the syntax breaks before that.
-- Assumes nothing.
use mathlib.Core.Path.{◌≡◌, ap, ◌∙◌, subst}
use mathlib.Core.Bool.{Bool, true, false}
use mathlib.Core.List.{List, ◌∷◌}
use Prim.Native.Nat.{ℕ, ◌≤◌, ◌<◌}
use lib.Dec.{ltb}
use borrow.Author.Tests.{ltb-true, ltb-false, lt-ltb, le-ltb}
use Rattle.dshot_reply_spec.specs.Answer.{pick}
use Rattle.dump_spec.specs.Causes.{refusal_of, time_before}
use Rattle.dump_spec.specs.Words.{Word, same}
use Rattle.dump_spec.specs.Walk as W
use Rattle.dump_spec.specs.Walk.{Body}
use Rattle.dump_spec.specs.Signal.{Outcome, read, broke, onward, Change, changed, changes_from}
use Rattle.dump_spec.proofs.Bounded.{Bounded}
use Rattle.dump_spec.proofs.Choices.{on, off}
use Rattle.dump_spec.proofs.Outcomes.{chosen}

-- From a time on, no time of a body falls, up to a time t at a place, which is smaller than the time before it.
pub data FirstFall : ℕ → Body → ℕ → ℕ → ℕ → Type 0 where
  here : {now t place : ℕ} {rest : Body} → t < now → FirstFall now (W.time t place rest) t now place
  later : {now s p t before place : ℕ} {rest : Body} → now ≤ s → FirstFall s rest t before place → FirstFall now (W.time s p rest) t before place
  past : {now l t before place : ℕ} {c : Word} {rest : Body} → FirstFall now rest t before place → FirstFall now (W.change l c rest) t before place

pub falls_below : {now t before place : ℕ} {b : Body} → FirstFall now b t before place → t < before
falls_below (here h) = h
falls_below (later h f) = falls_below f
falls_below (past f) = falls_below f

-- ---- where a time falls, reading breaks

kept : (t : Bool) (o : Outcome (List Change)) (x : Change) (cause place : ℕ) → o ≡ broke cause place
    → pick t (onward o (λ cs. read (x ∷ cs))) o ≡ broke cause place
kept true o x cause place e = ap (λ (u : Outcome (List Change)). onward u (λ cs. read (x ∷ cs))) e
kept false o x cause place e = e

pub fall-breaks : (code : Word) {now t before place : ℕ} {b : Body} → FirstFall now b t before place → changes_from code now b ≡ broke time_before place
fall-breaks code (here {now} {t} h) = on _ _ (lt-ltb t now h)
fall-breaks code (later {now} {s} h f) = off _ _ (le-ltb s now h) ∙ fall-breaks code f
fall-breaks code (past {now} {l} {c = c} {rest} f) = kept (same c code) (changes_from code now rest) (changed now l) _ _ (fall-breaks code f)

-- ---- where reading breaks, a time falls, or the syntax breaks

-- why a body breaks, from a time on
pub data BodyBreaks (now : ℕ) (b : Body) : ℕ → ℕ → Type 0 where
  syntax : {cause place : ℕ} → refusal_of cause ≡ 24 → BodyBreaks now b cause place
  falls : {t before place : ℕ} → FirstFall now b t before place → BodyBreaks now b time_before place

abbrev Broken : ℕ → Body → Outcome (List Change) → Type 0
Broken now b (read cs) = Unit {0}
Broken now b (broke cause place) = BodyBreaks now b cause place

after-time : {now s p cause place : ℕ} {b : Body} → now ≤ s → BodyBreaks s b cause place → BodyBreaks now (W.time s p b) cause place
after-time h (syntax e) = syntax e
after-time h (falls f) = falls (later h f)

after-change : {now l cause place : ℕ} {c : Word} {b : Body} → BodyBreaks now b cause place → BodyBreaks now (W.change l c b) cause place
after-change (syntax e) = syntax e
after-change (falls f) = falls (past f)

broken-time : (now s p : ℕ) (b : Body) (o : Outcome (List Change)) → now ≤ s → Broken s b o → Broken now (W.time s p b) o
broken-time now s p b (read cs) h k = tt
broken-time now s p b (broke cause place) h k = after-time h k

broken-change : (now l : ℕ) (c : Word) (b : Body) (o : Outcome (List Change)) → Broken now b o → Broken now (W.change l c b) o
broken-change now l c b (read cs) k = tt
broken-change now l c b (broke cause place) k = after-change k

broken-one : (now : ℕ) (x : Change) (b : Body) (o : Outcome (List Change)) → Broken now b o → Broken now b (onward o (λ cs. read (x ∷ cs)))
broken-one now x b (read cs) k = tt
broken-one now x b (broke cause place) k = k

broken : (code : Word) (now : ℕ) (b : Body) → Bounded b → Broken now b (changes_from code now b)
broken code now W.done k = tt
broken code now (W.broken cause place) k = syntax k
broken code now (W.time s p b) k =
    chosen (Broken now (W.time s p b)) (ltb s now) _ (changes_from code s b) (λ e. falls (here (ltb-true s now e)))
    (λ e. broken-time now s p b (changes_from code s b) (ltb-false s now e) (broken code s b k.1))
broken code now (W.change l c b) k =
    let o = changes_from code now b in
    let h = broken-change now l c b o (broken code now b k.1) in
    chosen (Broken now (W.change l c b)) (same c code) _ o (λ e. broken-one now (changed now l) (W.change l c b) o h) (λ e. h)

pub body-breaks : (code : Word) (now : ℕ) (b : Body) → Bounded b → {cause place : ℕ} → changes_from code now b ≡ broke cause place → BodyBreaks now b cause place
body-breaks code now b k e = subst (Broken now b) e (broken code now b k)
