-- The syntax of a dump as a relation between its words and its declarations, times and changes (IEEE 1364 clause 18, with the open points as
-- docs/DECISIONS.md decides them). `walk-is-grammar` proves that the walk accepts just what has a derivation here, with the same contents.
-- Assumes nothing.
use Rattle.std.specs.Prelude.{ℕ, ◌≤◌, ◌<◌, ◌≡◌, true, false, List, [], ◌∷◌, if◌then◌else◌}
use Rattle.dshot_reply_spec.specs.Answer.{given}
use Rattle.dump_spec.specs.Words.{Word, Placed, same, one_of, is_code, is_end, is_name}
use Rattle.dump_spec.specs.Numbers.{is_number, value_from, time_limit, number_of, is_real}
use Rattle.dump_spec.specs.Names.{Part, index_word, is_wrong, is_outside, reference}
use Rattle.dump_spec.specs.Kinds as K
use Rattle.dump_spec.specs.Kinds.{Kind, Keyword, scope_types, var_types, units, unit_in, scale_of, keywords, is_value, level_of, is_b, is_digits, is_r}
use Rattle.dump_spec.specs.Walk as W
use Rattle.dump_spec.specs.Walk.{Variable, Body, Head, variable_in, ended}
use Rattle.dump_spec.specs.Signal.{Change, changed, Found, never, once, declared_by}

-- ---- words

-- one of some keywords, with its kind
pub data Listed : List Keyword → Word → Kind → Type 0 where
  here : {k : Keyword} {ks : List Keyword} → Listed (k ∷ ks) k.word k.kind
  there : {k : Keyword} {ks : List Keyword} {w : Word} {x : Kind} → Listed ks w x → Listed (k ∷ ks) w x

-- a keyword; `#` and digits; a value and a code; `b` and values; `r` and a number
pub data Is : Kind → Word → Type 0 where
  keyword : {w : Word} {k : Kind} → Listed keywords w k → Is k w
  time : {w : Word} → is_number w ≡ true → value_from 0 w < time_limit → Is (K.time (value_from 0 w)) (35 ∷ w)
  change : {b : ℕ} {w : Word} → is_value b ≡ true → is_code w ≡ true → Is (K.change (level_of b) w) (b ∷ w)
  vector : {b : ℕ} {w : Word} → is_b b ≡ true → is_digits w ≡ true → Is K.vector (b ∷ w)
  real : {b : ℕ} {w : Word} → is_r b ≡ true → is_real w ≡ true → Is K.real (b ∷ w)

-- `$comment`, `$date` or `$version`
pub data Note : Word → Type 0 where
  comment : {w : Word} → Is K.comment w → Note w
  other : {w : Word} → Is K.note w → Note w

-- text up to the first word `$end`, and the words after it
pub data Text : List Placed → List Placed → Type 0 where
  ends : {w : Placed} {r : List Placed} → is_end w.bytes ≡ true → Text (w ∷ r) r
  goes : {w : Placed} {ws r : List Placed} → is_end w.bytes ≡ false → Text ws r → Text (w ∷ ws) r

-- index words up to the word `$end`, which is e, and the words after it
pub data Indices : Part → List Placed → Placed → List Placed → Type 0 where
  ends : {p : Part} {e : Placed} {r : List Placed} → is_end e.bytes ≡ true → is_outside p ≡ true → Indices p (e ∷ r) e r
  goes : {p : Part} {w e : Placed} {ws r : List Placed} → is_end w.bytes ≡ false → is_wrong (index_word p w.bytes) ≡ false
      → Indices (index_word p w.bytes) ws e r → Indices p (w ∷ ws) e r

-- ---- declarations

-- what a declaration says that matters later
pub data Declared : Type 0 where
  unit : ℕ → Declared
  variable : Variable → Declared

-- declarations up to `$enddefinitions`, the place of that word, and the words after it
pub data Decls : List Placed → List Declared → ℕ → List Placed → Type 0 where
  over : {w : Placed} {r : List Placed} → Is K.enddefinitions w.bytes → Decls (w ∷ r) [] w.at r
  note : {w : Placed} {ws ws' r : List Placed} {ds : List Declared} {p : ℕ} → Note w.bytes → Text ws ws' → Decls ws' ds p r → Decls (w ∷ ws) ds p r
  glued : {w n e : Placed} {ws r : List Placed} {ds : List Declared} {p u : ℕ} → Is K.timescale w.bytes → scale_of n.bytes ≡ K.unit u
      → is_end e.bytes ≡ true → Decls ws ds p r → Decls (w ∷ n ∷ e ∷ ws) (unit u ∷ ds) p r
  apart : {w n m e : Placed} {ws r : List Placed} {ds : List Declared} {p k u : ℕ} → Is K.timescale w.bytes → scale_of n.bytes ≡ K.number k
      → unit_in units k m.bytes ≡ K.unit u → is_end e.bytes ≡ true → Decls ws ds p r → Decls (w ∷ n ∷ m ∷ e ∷ ws) (unit u ∷ ds) p r
  scope : {w t n e : Placed} {ws r : List Placed} {ds : List Declared} {p : ℕ} → Is K.scope w.bytes → one_of scope_types t.bytes ≡ true
      → is_name n.bytes ≡ true → is_end e.bytes ≡ true → Decls ws ds p r → Decls (w ∷ t ∷ n ∷ e ∷ ws) ds p r
  upscope : {w e : Placed} {ws r : List Placed} {ds : List Declared} {p : ℕ} → Is K.upscope w.bytes → is_end e.bytes ≡ true → Decls ws ds p r
      → Decls (w ∷ e ∷ ws) ds p r
  var : {w t s c n e : Placed} {ws ws' r : List Placed} {ds : List Declared} {p k : ℕ} → Is K.var w.bytes → one_of var_types t.bytes ≡ true
      → number_of s.bytes ≡ given k → is_name c.bytes ≡ true → is_name n.bytes ≡ true → Indices (reference n.bytes).part ws e ws'
      → Decls ws' ds p r → Decls (w ∷ t ∷ s ∷ c ∷ n ∷ ws) (variable (ended (variable_in k c.bytes n) e) ∷ ds) p r

-- ---- times and changes

-- a time with its place, or a change with its level and code
pub data Item : Type 0 where
  clock : ℕ → ℕ → Item
  value : ℕ → Word → Item

-- the first word of a vector or a real
pub data Skipped : Word → Type 0 where
  vector : {w : Word} → Is K.vector w → Skipped w
  real : {w : Word} → Is K.real w → Skipped w

-- the changes of a block up to its `$end`; then the items and the words that follow
pub data Block : List Placed → List Item → List Placed → List Item → Type 0 where
  ends : {e : Placed} {r : List Placed} {is : List Item} → is_end e.bytes ≡ true → Block (e ∷ r) is r is
  change : {w : Placed} {c : Word} {l : ℕ} {ws r : List Placed} {is is' : List Item} → is_end w.bytes ≡ false → Is (K.change l c) w.bytes
      → Block ws is r is' → Block (w ∷ ws) (value l c ∷ is) r is'
  skipped : {w c : Placed} {ws r : List Placed} {is is' : List Item} → is_end w.bytes ≡ false → Skipped w.bytes → is_name c.bytes ≡ true
      → Block ws is r is' → Block (w ∷ c ∷ ws) is r is'

-- what follows the declarations
pub data Items : List Placed → List Item → Type 0 where
  over : Items [] []
  time : {w : Placed} {t : ℕ} {ws : List Placed} {is : List Item} → Is (K.time t) w.bytes → Items ws is → Items (w ∷ ws) (clock t w.at ∷ is)
  change : {w : Placed} {c : Word} {l : ℕ} {ws : List Placed} {is : List Item} → Is (K.change l c) w.bytes → Items ws is
      → Items (w ∷ ws) (value l c ∷ is)
  note : {w : Placed} {ws ws' : List Placed} {is : List Item} → Is K.comment w.bytes → Text ws ws' → Items ws' is → Items (w ∷ ws) is
  block : {w : Placed} {ws ws' : List Placed} {is is' : List Item} → Is K.block w.bytes → Block ws is ws' is' → Items ws' is' → Items (w ∷ ws) is
  skipped : {w c : Placed} {ws : List Placed} {is : List Item} → Skipped w.bytes → is_name c.bytes ≡ true → Items ws is → Items (w ∷ c ∷ ws) is

-- a dump: declarations up to `$enddefinitions`, whose place is p, the `$end` after it, times and changes
pub record Dump (ws : List Placed) (ds : List Declared) (p : ℕ) (is : List Item) : Type 0 where
  pub closing : Placed
  pub rest : List Placed
  pub declarations : Decls ws ds p (closing ∷ rest)
  pub closed : is_end closing.bytes ≡ true
  pub items : Items rest is

-- ---- what a derivation says, in the walk's terms

abbrev pub body_of : List Item → Body
body_of [] = W.done
body_of (clock t p ∷ is) = W.time t p (body_of is)
body_of (value l c ∷ is) = W.change l c (body_of is)

abbrev pub head_of : List Declared → ℕ → Body → Head
head_of [] p body = W.defined p body
head_of (unit u ∷ ds) p body = W.timescale u (head_of ds p body)
head_of (variable v ∷ ds) p body = W.variable v (head_of ds p body)

-- ---- what a derivation means for a name

-- how often one-bit variables of the name are declared, after f
abbrev pub declared_in : Word → Found → List Declared → Found
declared_in name f [] = f
declared_in name f (unit u ∷ ds) = declared_in name f ds
declared_in name f (variable v ∷ ds) = declared_in name (declared_by name f v) ds

-- no time is smaller than the one before it
abbrev pub Rising : ℕ → List Item → Type 0
Rising now [] = Unit {0}
Rising now (clock t p ∷ is) = (now ≤ t) × Rising t is
Rising now (value l c ∷ is) = Rising now is

-- the changes of a code, each at the time before it
abbrev pub changes_in : Word → ℕ → List Item → List Change
changes_in code now [] = []
changes_in code now (clock t p ∷ is) = changes_in code t is
changes_in code now (value l c ∷ is) = if same c code then changed now l ∷ changes_in code now is else changes_in code now is

-- The words are a dump that declares the name once. No time falls. These are the changes of the signal.
pub record Reads (name : Word) (ws : List Placed) (cs : List Change) : Type 0 where
  pub declared : List Declared
  pub place : ℕ
  pub items : List Item
  pub code : Word
  pub dump : Dump ws declared place items
  pub single : declared_in name never declared ≡ once code
  pub rising : Rising 0 items
  pub changes : changes_in code 0 items ≡ cs
