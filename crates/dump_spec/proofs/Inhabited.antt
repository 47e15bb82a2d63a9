-- Texts that are dumps, with what they say, and a text from which no changes are read: the relation holds of some words, and not of all.
-- Assumes nothing.
use mathlib.Core.Path.{◌≡◌, refl, ap}
use mathlib.Core.Bool.{Bool, true, false, true≢false}
use mathlib.Core.List.{List, [], ◌∷◌, ◌++◌}
use Prim.Native.Nat.{ℕ, ◌+◌}
use lib.ListN.{length}
use Rattle.dshot_reply_spec.specs.Answer.{pick}
use Rattle.dshot_reply_spec.specs.Ascii.{ascii}
use Rattle.dump_spec.specs.Causes.{time_before}
use Rattle.dump_spec.specs.Words.{Word, Placed, is_blank, put, split, words_from, is_printable, is_code, is_end, is_name}
use Rattle.dump_spec.specs.Numbers.{is_digit, is_number, number_of, is_sign, lower, is_special, is_real}
use Rattle.dump_spec.specs.Names.{after_number}
use Rattle.dump_spec.specs.Kinds.{is_value, level_of, is_b, is_digits, is_r, kind_of}
use Rattle.dump_spec.specs.Walk.{walk_body, walk_head}
use Rattle.dump_spec.specs.Signal.{read, broke, Change, changed}
use Rattle.dump_spec.specs.Grammar as G
use Rattle.dump_spec.specs.Grammar.{Declared, Item, Dump, Reads}
use Rattle.dump_spec.proofs.Syntax.{walk-is-grammar, read-is-grammar}

-- `split`, but only the branch that is taken is computed. The checker computes both branches of a choice, so that each byte would double the work of `split`.
abbrev lazy_split : ℕ → Word → List ℕ → List Placed
lazy_split p w [] = put p w []
lazy_split p w (b ∷ s) = elim (is_blank b) [ true ↦ put p w (lazy_split (p + length w + 1) [] s) | false ↦ lazy_split p (w ++ (b ∷ [])) s ]

split-lazy : (p : ℕ) (w : Word) (s : List ℕ) → split p w s ≡ lazy_split p w s
split-lazy p w [] = refl
split-lazy p w (b ∷ s) = go (is_blank b) (split-lazy (p + length w + 1) [] s) (split-lazy p (w ++ (b ∷ [])) s)
  where
    go : (t : Bool) → split (p + length w + 1) [] s ≡ lazy_split (p + length w + 1) [] s → split p (w ++ (b ∷ [])) s ≡ lazy_split p (w ++ (b ∷ [])) s
        → pick t (put p w (split (p + length w + 1) [] s)) (split p (w ++ (b ∷ [])) s)
        ≡ elim t [ true ↦ put p w (lazy_split (p + length w + 1) [] s) | false ↦ lazy_split p (w ++ (b ∷ [])) s ]
    go true e f = ap (put p w) e
    go false e f = f

words-lazy : (s : List ℕ) → words_from 0 s ≡ lazy_split 0 [] s
unfolding words_from
words-lazy s = split-lazy 0 [] s

-- ---- a small dump

abbrev small : List ℕ
small = ascii "$var wire 1 ! a $end $enddefinitions $end #0 1! #5 0!"

abbrev small_declared : List Declared
small_declared = G.variable record { size = 1; code = ascii "!"; name = ascii "a"; at = 14; next = 20 } ∷ []

abbrev small_items : List Item
small_items = G.clock 0 42 ∷ G.value 1 (ascii "!") ∷ G.clock 5 48 ∷ G.value 0 (ascii "!") ∷ []

pub small-dump : Dump (words_from 0 small) small_declared 21 small_items
unfolding is_blank is_printable is_code is_end is_name is_digit is_number number_of is_value level_of kind_of walk_body walk_head
small-dump = rw (words-lazy small) ((walk-is-grammar 53 (lazy_split 0 [] small) small_declared 21 small_items).0 refl)

pub small-reads : Reads (ascii "a") (words_from 0 small) (changed 0 1 ∷ changed 5 0 ∷ [])
unfolding is_blank is_printable is_code is_end is_name is_digit is_number number_of is_value level_of kind_of walk_body walk_head
small-reads = rw (words-lazy small) ((read-is-grammar (ascii "a") 53 (lazy_split 0 [] small) (changed 0 1 ∷ changed 5 0 ∷ [])).0 refl)

-- ---- a dump whose derivation uses each rule of the syntax

abbrev forms : List ℕ
forms =
    ascii "$date d $end $comment c $end $timescale 10 ns $end $timescale 1us $end $scope module t $end "
    ++ ascii "$var wire 01 ! a [3] $end $upscope $end $enddefinitions $end $dumpvars x! b01 % $end #0 1! r1.5 % $comment $end #5 0! 1%"

abbrev forms_declared : List Declared
forms_declared =
    G.unit 10000000 ∷ G.unit 1000000000 ∷ G.variable record { size = 1; code = ascii "!"; name = ascii "a"; at = 107; next = 117 } ∷ []

abbrev forms_items : List Item
forms_items =
    G.value 2 (ascii "!") ∷ G.clock 0 177 ∷ G.value 1 (ascii "!") ∷ G.clock 5 204 ∷ G.value 0 (ascii "!") ∷ G.value 1 (ascii "%") ∷ []

pub forms-dump : Dump (words_from 0 forms) forms_declared 132 forms_items
unfolding is_blank is_printable is_code is_end is_name is_digit is_number number_of is_sign is_special lower is_real after_number is_value level_of is_b is_digits is_r kind_of
    walk_body walk_head
forms-dump = rw (words-lazy forms) ((walk-is-grammar 212 (lazy_split 0 [] forms) forms_declared 132 forms_items).0 refl)

-- ---- a time that falls

abbrev falling : List ℕ
falling = ascii "$var wire 1 ! a $end $enddefinitions $end #5 1! #0 0!"

pub falling-reads : (cs : List Change) → Reads (ascii "a") (words_from 0 falling) cs → ⊥
unfolding is_blank is_printable is_code is_end is_name is_digit is_number number_of is_value level_of kind_of walk_body walk_head
falling-reads cs r =
    let e : broke time_before 48 ≡ read cs = (read-is-grammar (ascii "a") 53 (lazy_split 0 [] falling) cs).1 (rw (words-lazy falling) at r) in true≢false (cc)
