-- The words of a line that was written with blanks between its words.
-- Assumes nothing.
use mathlib.Core.Path.{◌≡◌, refl, sym, ap, ◌∙◌}
use mathlib.Core.Bool.{true, false, true≢false}
use mathlib.Core.List.{List, [], ◌∷◌, ◌++◌, append_assoc, append-nil}
use Prim.Native.Nat.{ℕ, ◌+◌, ◌≤◌}
use native.Mathlib.Omega.{arith}
use lib.Dec.{ltb}
use lib.ListN.{length}
use borrow.Author.Tests.{ltb-false, ne_eqb}
use Rattle.dshot_reply_spec.proofs.Choice.{not_first}
use Rattle.capture_file.specs.Line.{spaced}
use Rattle.dump_spec.specs.Words.{Word, Placed, placed, is_blank, put, split, words_from, some, all, is_printable, is_code}
use Rattle.dump_spec.proofs.Choices.{on, off, both}

-- ---- one word, and a blank after it

no-blank : (b : ℕ) → 33 ≤ b → is_blank b ≡ false
unfolding is_blank
no-blank b h = rw (
  ne_eqb b 32 (λ e. omega arith),
  ne_eqb b 9 (λ e. omega arith),
  ne_eqb b 10 (λ e. omega arith),
  ne_eqb b 12 (λ e. omega arith),
  ne_eqb b 13 (λ e. omega arith),
)

printable-goes-on : (b : ℕ) → is_printable b ≡ true → is_blank b ≡ false
unfolding is_printable
printable-goes-on b e = no-blank b (ltb-false b 33 (not_first (ltb b 33) e (λ f. true≢false (sym f))).0)

-- v has been read, and w follows up to a blank
split-word : (p : ℕ) (v w : Word) (b : ℕ) (s : List ℕ) → all is_printable w ≡ true → is_blank b ≡ true
    → split p v (w ++ (b ∷ s)) ≡ put p (v ++ w) (split (p + length (v ++ w) + 1) [] s)
split-word p v [] b s a e = on _ _ e ∙ ap (λ (u : Word). put p u (split (p + length u + 1) [] s)) (sym (append-nil v))
split-word p v (c ∷ w) b s a e =
    let h = both (is_printable c) (all is_printable w) a in
    off _ _ (printable-goes-on c h.0)
    ∙ split-word p (v ++ (c ∷ [])) w b s h.1 e
    ∙ ap (λ (u : Word). put p u (split (p + length u + 1) [] s)) (append_assoc v (c ∷ []) w)

put_some : (p : ℕ) (w : Word) (ws : List Placed) → some w ≡ true → put p w ws ≡ placed p w ∷ ws
put_some p [] ws e = absurd (true≢false (sym e))
put_some p (b ∷ w) ws e = refl

next_word : (p : ℕ) (w : Word) (b : ℕ) (s : List ℕ) → is_code w ≡ true → is_blank b ≡ true
    → words_from p (w ++ (b ∷ s)) ≡ placed p w ∷ words_from (p + length w + 1) s
unfolding words_from is_code
next_word p w b s c e =
    let h = both (some w) (all is_printable w) c in
    split-word p [] w b s h.1 e ∙ put_some p w _ h.0

-- ---- a line

-- each word of a list has a byte, and only printable ones
abbrev pub Codes : List Word → Type 0
Codes [] = Unit {0}
Codes (w ∷ ws) = (is_code w ≡ true) × Codes ws

-- words with their places, if each but the last has a blank after it
abbrev pub placed_from : ℕ → List Word → List Placed
placed_from p [] = []
placed_from p (w ∷ ws) = placed p w ∷ placed_from (p + length w + 1) ws

-- the place after a line
abbrev pub after : ℕ → List Word → ℕ
after p [] = p + 1
after p (w ∷ []) = p + length w + 1
after p (w ∷ v ∷ ws) = after (p + length w + 1) (v ∷ ws)

empty-line : (p : ℕ) (s : List ℕ) → words_from p (10 ∷ s) ≡ words_from (p + 1) s
unfolding words_from is_blank
empty-line p s = ap (λ (q : ℕ). split q [] s) (omega arith)

pub line-words : (p : ℕ) (ws : List Word) (s : List ℕ) → Codes ws → words_from p (spaced ws ++ s) ≡ placed_from p ws ++ words_from (after p ws) s
unfolding is_blank
line-words p [] s c = empty-line p s
line-words p (w ∷ []) s c = ap (words_from p) (append_assoc w (10 ∷ []) s) ∙ next_word p w 10 s c.0 refl
line-words p (w ∷ v ∷ ws) s c =
    ap (words_from p) (append_assoc w (32 ∷ spaced (v ∷ ws)) s)
    ∙ next_word p w 32 (spaced (v ∷ ws) ++ s) c.0 refl
    ∙ ap (λ (ps : List Placed). placed p w ∷ ps) (line-words (p + length w + 1) (v ∷ ws) s c.1)
