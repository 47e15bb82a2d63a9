-- What the calls on dumps owe (document 02, W-203): from the bytes of a text and the arguments to samples, place, timescale and variables.
-- Assumes nothing.
use Rattle.std.specs.Prelude.{ℕ, ◌^◌, List, ◌++◌, eqb, leb, ltb, length, drop, if◌then◌else◌}
use Rattle.dshot_reply_spec.specs.Answer.{Answer, given, refused}
use Rattle.dshot_reply_spec.specs.Refusals.{broken_dump, wrong_length}
use Rattle.dump_spec.specs.Causes.{refusal_of, no_place, offset_out, period_out, count_out, no_level_at}
use Rattle.dump_spec.specs.Words.{Word, words_from}
use Rattle.dump_spec.specs.Names.{unescaped}
use Rattle.dump_spec.specs.Kinds.{no_level}
use Rattle.dump_spec.specs.Walk as W
use Rattle.dump_spec.specs.Walk.{Head, HeadMode, BodyMode, Body, Variable, walk_head, walk_body}
use Rattle.dump_spec.specs.Signal.{Outcome, read, broke, onward, Change, never, signal_from}
use Rattle.dump_spec.specs.Levels.{samples_from, first_without}

-- what a text says from a place on
unfoldable pub head_at : List ℕ → HeadMode → ℕ → Head
head_at text m i = walk_head (length text) m (words_from i (drop i text))

unfoldable pub body_at : List ℕ → BodyMode → ℕ → Body
body_at text m i = walk_body (length text) m (words_from i (drop i text))

-- the changes of the signal that a name names
unfoldable pub changes_of : List ℕ → Word → Outcome (List Change)
changes_of text name = signal_from (unescaped name) never (head_at text W.declaration 0)

-- ---- samples

-- what is asked for besides text and name
pub record Asked : Type 0 where
  pub offset : ℕ
  pub period : ℕ
  pub count : ℕ

abbrev pub asked : ℕ → ℕ → ℕ → Asked
asked offset period count = record { offset = offset; period = period; count = count }

-- the most samples
abbrev pub max_samples : ℕ
max_samples = 4096

-- offset and period are below 2^32, the period is at least 1, and there are at most 4096 samples
unfoldable pub in_range : {A : Type 0} → Asked → Outcome A → Outcome A
in_range a next =
    if leb (2 ^ 32) a.offset then broke offset_out no_place else
    if eqb a.period 0 then broke period_out no_place else
    if leb (2 ^ 32) a.period then broke period_out no_place else
    if ltb max_samples a.count then broke count_out no_place else
    next

-- sample k is the level at offset + k × period, or no level
unfoldable pub sampled_levels : List ℕ → Word → Asked → Outcome (List ℕ)
sampled_levels text name a =
    in_range a (onward (changes_of text name) (λ cs. read (samples_from no_level cs a.period a.offset a.count)))

-- each sample must have a level
unfoldable pub with_levels : List ℕ → Outcome (List ℕ)
with_levels ls = if eqb (first_without 0 ls) (length ls) then read ls else broke no_level_at no_place

-- the arguments first, then the text in reading order, then the levels
unfoldable pub dump_levels : List ℕ → Word → Asked → Outcome (List ℕ)
dump_levels text name a = onward (sampled_levels text name a) with_levels

abbrev pub answered : {A : Type 0} → Outcome A → Answer A
answered (read a) = given a
answered (broke cause place) = refused (refusal_of cause)

-- the samples of a dump
unfoldable pub read_dump : List ℕ → Word → Asked → Answer (List ℕ)
read_dump text name a = answered (dump_levels text name a)

-- They are read into slots. If there are not 4096 slots, the refusal is 13 (wrong length).
unfoldable pub read_dump_into : List ℕ → Word → Asked → List ℕ → Answer (List ℕ)
read_dump_into text name a slots = if eqb (length slots) max_samples then read_dump text name a else refused wrong_length

-- slots whose first ones hold the samples; the others stay
abbrev pub samples_in : List ℕ → List ℕ → List ℕ
samples_in slots ls = ls ++ drop (length ls) slots

-- ---- where reading breaks, and why

-- The place and the cause. If the dump is read, the cause is 0. The third is the number of the first sample without a level, if that is the cause.
pub record Broken : Type 0 where
  pub place : ℕ
  pub cause : ℕ
  pub sample : ℕ

abbrev pub broken_at : ℕ → ℕ → ℕ → Broken
broken_at place cause sample = record { place = place; cause = cause; sample = sample }

abbrev pub level_place : List ℕ → Broken
level_place ls = if eqb (first_without 0 ls) (length ls) then broken_at no_place 0 no_place else broken_at no_place no_level_at (first_without 0 ls)

abbrev pub place_of : Outcome (List ℕ) → Broken
place_of (read ls) = level_place ls
place_of (broke cause place) = broken_at place cause no_place

unfoldable pub dump_place : List ℕ → Word → Asked → Broken
dump_place text name a = place_of (sampled_levels text name a)

-- ---- the timescale and the variables

-- the unit of the last timescale before `$enddefinitions` in femtoseconds; u, if there is none
abbrev pub scale_from : ℕ → Head → Answer ℕ
scale_from u (W.broken cause place) = refused broken_dump
scale_from u (W.timescale v rest) = scale_from v rest
scale_from u (W.variable v rest) = scale_from u rest
scale_from u (W.defined place body) = given u

-- 0, if the dump has no timescale
unfoldable pub dump_scale : List ℕ → Answer ℕ
dump_scale text = scale_from 0 (head_at text W.declaration 0)

-- a variable: the place after its declaration, the place and the length of its name, and its size
pub record About : Type 0 where
  pub next : ℕ
  pub at : ℕ
  pub long : ℕ
  pub size : ℕ

abbrev pub about : ℕ → ℕ → ℕ → ℕ → About
about next at long size = record { next = next; at = at; long = long; size = size }

-- the first variable; if `$enddefinitions` comes before one, its place and zeros
abbrev pub first_variable : Head → Answer About
first_variable (W.broken cause place) = refused broken_dump
first_variable (W.timescale u rest) = first_variable rest
first_variable (W.variable v rest) = given (about v.next v.at (length v.name) v.size)
first_variable (W.defined place body) = given (about place 0 0 0)

-- the next variable from a place on
unfoldable pub dump_variable : List ℕ → ℕ → Answer About
dump_variable text from = first_variable (head_at text W.declaration from)
