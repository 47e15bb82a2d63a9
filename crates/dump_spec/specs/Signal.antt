-- The changes of one signal in a dump, by its name: document 02's 25 at `$enddefinitions` and its 26 at a time, in reading order with the syntax.
-- Assumes nothing.
use Rattle.std.specs.Prelude.{ℕ, Bool, false, List, [], ◌∷◌, eqb, ltb, if◌then◌else◌}
use Rattle.dump_spec.specs.Causes.{never_declared, declared_twice, time_before}
use Rattle.dump_spec.specs.Words.{Word, same}
use Rattle.dump_spec.specs.Walk as W
use Rattle.dump_spec.specs.Walk.{Variable, Body, Head}

-- what was read, or the cause and the place at which reading broke
pub data Outcome (A : Type 0) : Type 0 where
  read : A → Outcome A
  broke : ℕ → ℕ → Outcome A

-- the next step of what was read; a break stays as it is
abbrev pub onward : {A B : Type 0} → Outcome A → (A → Outcome B) → Outcome B
onward (read a) next = next a
onward (broke cause place) next = broke cause place

-- a change of the signal: its time, and its level 0, 1, or 2 for none
pub record Change : Type 0 where
  pub time : ℕ
  pub level : ℕ

abbrev pub changed : ℕ → ℕ → Change
changed t l = record { time = t; level = l }

-- how often a name is declared so far, and its code
pub data Found : Type 0 where
  never : Found
  once : Word → Found
  more : Found

abbrev pub one_more : Found → Word → Found
one_more never c = once c
one_more (once d) c = more
one_more more c = more

-- a variable counts if it has the name, and one bit
abbrev pub counts : Word → Variable → Bool
counts name v = if eqb v.size 1 then same v.name name else false

abbrev pub declared_by : Word → Found → Variable → Found
declared_by name f v = if counts name v then one_more f v.code else f

-- A change before the first time counts at 0. A time may equal the one before it.
abbrev pub changes_from : Word → ℕ → Body → Outcome (List Change)
changes_from code now W.done = read []
changes_from code now (W.broken cause place) = broke cause place
changes_from code now (W.time t place rest) = if ltb t now then broke time_before place else changes_from code t rest
changes_from code now (W.change l c rest) =
    if same c code then onward (changes_from code now rest) (λ cs. read (changed now l ∷ cs)) else changes_from code now rest

-- at `$enddefinitions` the name must have been declared once
abbrev pub after_definitions : Found → ℕ → Body → Outcome (List Change)
after_definitions never place body = broke never_declared place
after_definitions (once code) place body = changes_from code 0 body
after_definitions more place body = broke declared_twice place

abbrev pub signal_from : Word → Found → Head → Outcome (List Change)
signal_from name f (W.broken cause place) = broke cause place
signal_from name f (W.timescale u rest) = signal_from name f rest
signal_from name f (W.variable v rest) = signal_from name (declared_by name f v) rest
signal_from name f (W.defined place body) = after_definitions f place body
