-- The declarations that are written declare the signal once, and leave the lines after them to be read as changes.
-- Assumes nothing.
use mathlib.Core.Path.{◌≡◌, refl, sym, ap, ◌∙◌}
use mathlib.Core.Bool.{true}
use mathlib.Core.List.{List, [], ◌∷◌, ◌++◌, append_assoc, map}
use Prim.Native.Nat.{ℕ, ◌+◌, ◌^◌}
use lib.ListN.{length}
use Rattle.dshot_reply_spec.specs.Ascii.{ascii}
use Rattle.capture_file.specs.Line.{spaced}
use Rattle.dump_spec.specs.Words.{Word, Placed, placed, words_from, same, is_printable, is_code, is_end, is_name}
use Rattle.dump_spec.specs.Numbers.{is_digit, is_number, number_of}
use Rattle.dump_spec.specs.Kinds.{kind_of}
use Rattle.dump_spec.specs.Walk as W
use Rattle.dump_spec.specs.Walk.{Variable, variable_in, ended, walk_head, walk_body}
use Rattle.dump_spec.specs.Signal.{Found, never, once, declared_by, changes_from, after_definitions, signal_from}
use Rattle.dump_spec.proofs.Choices.{on, same_refl}
use Rattle.dump_written.specs.Written.{is_plain, declarations}
use Rattle.dump_written.proofs.WordLaws.{placed_from, after, line-words}
use Rattle.dump_written.proofs.NameLaws.{Plain, plain}
use Rattle.dump_written.proofs.ChangesBack.{signal_code}

-- ---- the words of the three lines

abbrev scale_words : List Word
scale_words = map ascii ("$timescale" ∷ "1" ∷ "ns" ∷ "$end" ∷ [])

abbrev var_words : Word → List Word
var_words name = ascii "$var" ∷ ascii "wire" ∷ ascii "1" ∷ signal_code ∷ name ∷ ascii "$end" ∷ []

abbrev end_words : List Word
end_words = map ascii ("$enddefinitions" ∷ "$end" ∷ [])

three-lines : (name : Word) (s : List ℕ) → declarations name ++ s ≡ spaced scale_words ++ (spaced (var_words name) ++ (spaced end_words ++ s))
unfolding declarations
three-lines name s =
    ap (λ (r : List ℕ). ascii "$timescale 1 ns $end\n$var wire 1 ! " ++ r)
    (append_assoc name (ascii " $end\n$enddefinitions $end\n") s ∙ sym (append_assoc name (ascii " $end\n") (ascii "$enddefinitions $end\n" ++ s)))

-- where the second line begins, its name, the third line, and the changes
abbrev var_place : ℕ
var_place = 21

abbrev name_place : ℕ
name_place = 35

abbrev end_place : Word → ℕ
end_place name = after var_place (var_words name)

abbrev pub changes_place : Word → ℕ
changes_place name = after (end_place name) end_words

its-words : (name : Word) (s : List ℕ) → is_code name ≡ true
    → words_from 0 (declarations name ++ s)
    ≡ placed_from 0 scale_words ++ (placed_from var_place (var_words name) ++ (placed_from (end_place name) end_words ++ words_from (changes_place name) s))
unfolding is_code is_printable
its-words name s c =
    ap (words_from 0) (three-lines name s)
    ∙ line-words 0 scale_words (spaced (var_words name) ++ (spaced end_words ++ s)) (refl, (refl, (refl, (refl, tt))))
    ∙ ap (λ (ws : List Placed). placed_from 0 scale_words ++ ws)
    (line-words var_place (var_words name) (spaced end_words ++ s) (refl, (refl, (refl, (refl, (c, (refl, tt))))))
    ∙ ap (λ (ws : List Placed). placed_from var_place (var_words name) ++ ws) (line-words (end_place name) end_words s (refl, (refl, tt))))

-- ---- what they say

scale-walk : (n : ℕ) (ws : List Placed) → walk_head n W.declaration (placed_from 0 scale_words ++ ws) ≡ W.timescale (10 ^ 6) (walk_head n W.declaration ws)
unfolding walk_head kind_of is_end
scale-walk n ws = refl

end-walk : (n q : ℕ) (ws : List Placed) → walk_head n W.declaration (placed_from q end_words ++ ws) ≡ W.defined q (walk_body n W.items ws)
unfolding walk_head walk_body kind_of is_end
end-walk n q ws = refl

-- a variable of one bit, as far as its name
var-walk : (n : ℕ) (name : Word) (ws : List Placed) → walk_head n W.declaration (placed_from var_place (var_words name) ++ ws)
    ≡ walk_head n (W.var_name 1 signal_code) (placed_from name_place (name ∷ ascii "$end" ∷ []) ++ ws)
unfolding walk_head kind_of is_end is_name is_code is_printable is_digit is_number number_of
var-walk n name ws = refl

-- the variable of a name
abbrev signal : Word → Variable
signal name = ended (variable_in 1 signal_code (placed name_place name)) (placed (name_place + length name + 1) (ascii "$end"))

name-walk : (n : ℕ) (name : Word) (ws : List Placed) → Plain name
    → walk_head n (W.var_name 1 signal_code) (placed_from name_place (name ∷ ascii "$end" ∷ []) ++ ws) ≡ W.variable (signal name) (walk_head n W.declaration ws)
unfolding walk_head is_end
name-walk n name ws p = rw (p.word, p.whole)

module _ (name : Word) (p : is_plain name ≡ true) where
  its-walk : (n : ℕ) (s : List ℕ) → walk_head n W.declaration (words_from 0 (declarations name ++ s))
      ≡ W.timescale (10 ^ 6) (W.variable (signal name) (W.defined (end_place name) (walk_body n W.items (words_from (changes_place name) s))))
  its-walk n s =
      ap (walk_head n W.declaration) (its-words name s (plain name p).printable)
      ∙ scale-walk n _
      ∙ ap (W.timescale (10 ^ 6))
      (var-walk n name _ ∙ name-walk n name _ (plain name p) ∙ ap (W.variable (signal name)) (end-walk n (end_place name) (words_from (changes_place name) s)))

  its-count : declared_by name never (signal name) ≡ once signal_code
  its-count = on _ _ (ap (λ (w : Word). same w name) (plain name p).itself ∙ same_refl name)

  -- so the changes are those of the lines after them
  pub declared-once : (n : ℕ) (s : List ℕ) → signal_from name never (walk_head n W.declaration (words_from 0 (declarations name ++ s)))
      ≡ changes_from signal_code 0 (walk_body n W.items (words_from (changes_place name) s))
  declared-once n s =
      ap (signal_from name never) (its-walk n s)
      ∙ ap (λ (f : Found). after_definitions f (end_place name) (walk_body n W.items (words_from (changes_place name) s))) its-count
