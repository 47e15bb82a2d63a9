-- `kuzhenga::slots::put` meets its contract: what its closure answered is in the slots, or is the refusal.
-- Assumes nothing.
use mathlib.Core.Path.{◌≡◌, refl, subst}
use borrow.Author.Rules.{rules}
use Rattle.std.specs.Prelude.{Result, Ok, Err, MatchResult, IsErrAnd}
use Rattle.std.proofs.lemmas.Result.{err_from_is_err_and}
use Rattle.kuzhenga.proofs.slots.put.Goals as goal

module _ {T E D : Type 0} (P : T → Type 0) (Q : E → Type 0) (K : E → D → Type 0) where
  given-on : (r : Result T E) (m : Result T D) (y : T) → MatchResult r (λ x. m ≡ Ok x) (λ e. IsErrAnd m (K e)) → m ≡ Ok y → P y → MatchResult r P Q
  given-on (Ok x) m y h e p = let same : y ≡ x = cc in subst P same p
  given-on (Err d) (Ok z) y h e p = absurd h
  given-on (Err d) (Err z) y h e p = cc

  refused-on : (r : Result T E) (m : Result T D) (d : D) → MatchResult r (λ x. m ≡ Ok x) (λ e. IsErrAnd m (K e)) → m ≡ Err d → ((e : E) → K e d → Q e) → MatchResult r P Q
  refused-on (Ok x) m d h e q = cc
  refused-on (Err x) (Ok z) d h e q = absurd h
  refused-on (Err x) (Err z) d h e q = let same : z ≡ d = cc in q x (subst (K x) same h)

pub returns-in_err-map_err-clause-answered : goal.returns-in_err-map_err-clause-answered
returns-in_err-map_err-clause-answered g c h =
    let p = err_from_is_err_and c.from_residual-in_err-map_err.result c.from_residual-in_err-map_err.ensures.1 in
    (c.make.result, c.make.ensures, refused-on _ _ (λ e d. g.E.Into.converts e d) c.make.result c.map_err.result c.in_err-map_err.field-0.0 c.map_err.ensures.cases c.in_err-map_err.was (λ e k. (rw (p.1, p.2) k, search rules)))

pub returns-clause-answered : goal.returns-clause-answered
returns-clause-answered g c h = (c.make.result, c.make.ensures, given-on _ _ (λ e d. g.E.Into.converts e d) c.make.result c.map_err.result _ c.map_err.ensures.cases c.in_ok-map_err.was (refl, c.fill.ensures))
