-- A plain name is declared and asked for as it stands.
-- Assumes nothing.
use mathlib.Core.Path.{◌≡◌, refl, sym, ap, ◌∙◌}
use mathlib.Core.Bool.{true, false, true≢false}
use mathlib.Core.List.{[], ◌∷◌}
use Prim.Native.Nat.{ℕ, ◌+◌}
use native.Mathlib.Omega.{arith}
use lib.Dec.{eqb}
use lib.ListN.{length}
use lib.Seq.{take-length}
use Rattle.dshot_reply_spec.proofs.Choice.{not_first}
use Rattle.dump_spec.specs.Words.{Word, all, is_code, is_end, is_name}
use Rattle.dump_spec.specs.Names.{Part, outside, before, wrong, index_word, is_wrong, Cut, cut_at, cut, is_escaped, reference, name_in, unescaped}
use Rattle.dump_spec.proofs.Choices.{on, off, both}
use Rattle.dump_written.specs.Written.{no_bracket, is_plain}

-- ---- no byte of it begins an index

wrong_stays : (w : Word) → index_word wrong w ≡ wrong
wrong_stays [] = refl
wrong_stays (b ∷ w) = wrong_stays w

no_index : (b : ℕ) (w : Word) → no_bracket b ≡ true → is_wrong (index_word outside (b ∷ w)) ≡ true
unfolding no_bracket
no_index b w e =
    let no-bracket = (not_first (eqb b 91) e (λ f. true≢false (sym f))).0 in
    ap (λ (p : Part). is_wrong (index_word p w)) (off before wrong no-bracket) ∙ ap is_wrong (wrong_stays w)

cut-nothing : (n : ℕ) (w : Word) → all no_bracket w ≡ true → cut n w ≡ cut_at 0 (n + length w) outside
cut-nothing n [] a = ap (λ (k : ℕ). cut_at 0 k outside) (omega arith)
cut-nothing n (b ∷ w) a =
    let h = both (no_bracket b) (all no_bracket w) a in
    on _ _ (no_index b w h.0) ∙ cut-nothing (n + 1) w h.1 ∙ ap (λ (k : ℕ). cut_at 0 k outside) (omega arith)

-- ---- a plain name

plain-reference : (w : Word) → is_escaped w ≡ false → all no_bracket w ≡ true → reference w ≡ cut_at 0 (length w) outside
plain-reference [] e a = refl
plain-reference (b ∷ w) e a =
    off _ _ e ∙ cut-nothing 1 w (both (no_bracket b) (all no_bracket w) a).1 ∙ ap (λ (k : ℕ). cut_at 0 k outside) (omega arith)

-- what makes a name plain
pub record Plain (name : Word) : Type 0 where
  pub word : is_name name ≡ true
  pub printable : is_code name ≡ true
  pub whole : reference name ≡ cut_at 0 (length name) outside
  pub itself : name_in (reference name) name ≡ name
  pub asked : unescaped name ≡ name

pub plain : (name : Word) → is_plain name ≡ true → Plain name
unfolding is_plain is_name
plain name e =
    let h = not_first (is_escaped name) e (λ f. true≢false (sym f)) in
    let k = both (all no_bracket name) (is_name name) h.1 in
    let r = plain-reference name h.0 k.0 in
    record {
      word = k.1;
      printable = (not_first (is_end name) k.1 (λ f. true≢false (sym f))).1;
      whole = r;
      itself = ap (λ (c : Cut). name_in c name) r ∙ take-length name;
      asked = off _ _ h.0;
    }
