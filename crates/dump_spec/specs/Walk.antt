-- The syntax of a dump as a walk over its words in reading order (IEEE 1364 clause 18, with the open points as docs/DECISIONS.md decides them).
-- The walk gives what the text declares, its times and its changes, and says where and why the text breaks the syntax.
-- Assumes nothing.
use Rattle.std.specs.Prelude.{ℕ, ◌+◌, Bool, List, [], ◌∷◌, eqb, length, if◌then◌else◌}
use Rattle.dshot_reply_spec.specs.Answer.{Answer, given, refused}
use Rattle.dump_spec.specs.Causes.{text_ends, unknown_keyword, not_adeclaration, end_missing, wrong_timescale, wrong_scope_type, wrong_scope_name, wrong_var_type}
use Rattle.dump_spec.specs.Causes.{wrong_size, wrong_var_code, wrong_var_name, wrong_index, late_declaration, not_achange, wrong_code}
use Rattle.dump_spec.specs.Words.{Word, Placed, one_of, is_end, is_name}
use Rattle.dump_spec.specs.Numbers.{number_of}
use Rattle.dump_spec.specs.Names.{Part, index_word, is_wrong, is_outside, reference, name_in}
use Rattle.dump_spec.specs.Kinds as K
use Rattle.dump_spec.specs.Kinds.{Kind, Scale, scope_types, var_types, units, unit_in, scale_of, kind_of, wrong_word}

-- ---- what a text says

-- A variable: its size, its code, its name without index, the place of that name, and the place after the declaration. A size from 2^62 on is given as 2^62.
pub record Variable : Type 0 where
  pub size : ℕ
  pub code : Word
  pub name : Word
  pub at : ℕ
  pub next : ℕ

-- Times and changes in reading order. A time has its place; a change has its level and its code. At last the text is done, or broken for a cause at a place.
pub data Body : Type 0 where
  done : Body
  broken : ℕ → ℕ → Body
  time : ℕ → ℕ → Body → Body
  change : ℕ → Word → Body → Body

-- Declarations in reading order. A timescale has its unit in femtoseconds. After `$enddefinitions`, with its place, come times and changes.
pub data Head : Type 0 where
  broken : ℕ → ℕ → Head
  timescale : ℕ → Head → Head
  variable : Variable → Head → Head
  defined : ℕ → Body → Head

-- ---- the declarations

-- what is due next
pub data HeadMode : Type 0 where
  declaration text scale scope_type scope_name closing var_type var_size : HeadMode
  scale_unit : ℕ → HeadMode
  var_code : ℕ → HeadMode
  var_name : ℕ → Word → HeadMode
  var_index : Variable → Part → HeadMode

-- where a word leads, and what it says
pub data HeadStep : Type 0 where
  goes : HeadMode → HeadStep
  scales : ℕ → HeadMode → HeadStep
  declares : Variable → HeadMode → HeadStep
  defines : HeadStep
  breaks : ℕ → HeadStep

abbrev pub needs : Bool → HeadMode → ℕ → HeadStep
needs holds next cause = if holds then goes next else breaks cause

-- why a word of no kind is refused among declarations: it begins with $, or not
unfoldable pub wrong_declaration : Word → ℕ
wrong_declaration [] = not_adeclaration
wrong_declaration (b ∷ w) = if eqb b 36 then unknown_keyword else not_adeclaration

abbrev pub declaration_step : Word → Kind → HeadStep
declaration_step w K.comment = goes text
declaration_step w K.note = goes text
declaration_step w K.timescale = goes scale
declaration_step w K.scope = goes scope_type
declaration_step w K.upscope = goes closing
declaration_step w K.var = goes var_type
declaration_step w K.enddefinitions = defines
declaration_step w K.block = breaks not_adeclaration
declaration_step w K.vector = breaks not_adeclaration
declaration_step w K.real = breaks not_adeclaration
declaration_step w K.other = breaks (wrong_declaration w)
declaration_step w (K.time t) = breaks not_adeclaration
declaration_step w (K.change l c) = breaks not_adeclaration

-- number and unit are glued or apart
abbrev pub scale_step : Scale → HeadStep
scale_step (K.number n) = goes (scale_unit n)
scale_step (K.unit u) = scales u closing
scale_step K.wrong = breaks wrong_timescale

abbrev pub size_step : Answer ℕ → HeadStep
size_step (given n) = goes (var_code n)
size_step (refused n) = breaks wrong_size

-- a variable whose name is in the word w; the place after it is not known yet
abbrev pub variable_in : ℕ → Word → Placed → Variable
variable_in size code w =
    let c = reference w.bytes in record { size = size; code = code; name = name_in c w.bytes; at = w.at + c.skip; next = 0 }

-- the place after a variable's `$end`
abbrev pub ended : Variable → Placed → Variable
ended v w = record { size = v.size; code = v.code; name = v.name; at = v.at; next = w.at + length w.bytes }

abbrev pub index_step : Variable → Part → Placed → HeadStep
index_step v p w =
    if is_end w.bytes then (if is_outside p then declares (ended v w) declaration else breaks wrong_index) else
    if is_wrong (index_word p w.bytes) then breaks wrong_index else goes (var_index v (index_word p w.bytes))

abbrev pub head_step : HeadMode → Placed → HeadStep
head_step declaration w = declaration_step w.bytes (kind_of w.bytes)
head_step text w = goes (if is_end w.bytes then declaration else text)
head_step scale w = scale_step (scale_of w.bytes)
head_step scope_type w = needs (one_of scope_types w.bytes) scope_name wrong_scope_type
head_step scope_name w = needs (is_name w.bytes) closing wrong_scope_name
head_step closing w = needs (is_end w.bytes) declaration end_missing
head_step var_type w = needs (one_of var_types w.bytes) var_size wrong_var_type
head_step var_size w = size_step (number_of w.bytes)
head_step (scale_unit n) w = scale_step (unit_in units n w.bytes)
head_step (var_code n) w = needs (is_name w.bytes) (var_name n w.bytes) wrong_var_code
head_step (var_name n c) w = needs (is_name w.bytes) (var_index (variable_in n c w) (reference w.bytes).part) wrong_var_name
head_step (var_index v p) w = index_step v p w

-- ---- times and changes

-- `ending` is before the `$end` of `$enddefinitions`. A code is due after the first word of a vector or a real.
pub data BodyMode : Type 0 where
  ending items text in_block item_code block_code : BodyMode

pub data BodyStep : Type 0 where
  goes : BodyMode → BodyStep
  times : ℕ → BodyStep
  changes : ℕ → Word → BodyMode → BodyStep
  breaks : ℕ → BodyStep

abbrev pub wants : Bool → BodyMode → ℕ → BodyStep
wants holds next cause = if holds then goes next else breaks cause

abbrev pub item_step : Word → Kind → BodyStep
item_step w K.comment = goes text
item_step w K.note = breaks late_declaration
item_step w K.timescale = breaks late_declaration
item_step w K.scope = breaks late_declaration
item_step w K.upscope = breaks late_declaration
item_step w K.var = breaks late_declaration
item_step w K.enddefinitions = breaks late_declaration
item_step w K.block = goes in_block
item_step w K.vector = goes item_code
item_step w K.real = goes item_code
item_step w K.other = breaks (wrong_word w)
item_step w (K.time t) = times t
item_step w (K.change l c) = changes l c items

-- in a block stand changes alone
abbrev pub block_step : Word → Kind → BodyStep
block_step w K.comment = breaks not_achange
block_step w K.note = breaks not_achange
block_step w K.timescale = breaks not_achange
block_step w K.scope = breaks not_achange
block_step w K.upscope = breaks not_achange
block_step w K.var = breaks not_achange
block_step w K.enddefinitions = breaks not_achange
block_step w K.block = breaks not_achange
block_step w K.vector = goes block_code
block_step w K.real = goes block_code
block_step w K.other = breaks (wrong_word w)
block_step w (K.time t) = breaks not_achange
block_step w (K.change l c) = changes l c in_block

abbrev pub body_step : BodyMode → Word → BodyStep
body_step ending w = wants (is_end w) items end_missing
body_step items w = item_step w (kind_of w)
body_step text w = goes (if is_end w then items else text)
body_step in_block w = if is_end w then goes items else block_step w (kind_of w)
body_step item_code w = wants (is_name w) items wrong_code
body_step block_code w = wants (is_name w) in_block wrong_code

-- the end of a text of n bytes
abbrev pub at_end : ℕ → BodyMode → Body
at_end n ending = broken text_ends n
at_end n items = done
at_end n text = broken text_ends n
at_end n in_block = broken text_ends n
at_end n item_code = broken text_ends n
at_end n block_code = broken text_ends n

-- what a word at a place says, and what follows it
abbrev pub body_then : BodyStep → ℕ → (BodyMode → Body) → Body
body_then (goes m) p rest = rest m
body_then (times t) p rest = time t p (rest items)
body_then (changes l c m) p rest = change l c (rest m)
body_then (breaks cause) p rest = broken cause p

-- what the words of a text of n bytes say
unfoldable pub walk_body : ℕ → BodyMode → List Placed → Body
walk_body n m [] = at_end n m
walk_body n m (w ∷ ws) = body_then (body_step m w.bytes) w.at (λ k. walk_body n k ws)

abbrev pub head_then : HeadStep → ℕ → (HeadMode → Head) → Body → Head
head_then (goes m) p rest body = rest m
head_then (scales u m) p rest body = timescale u (rest m)
head_then (declares v m) p rest body = variable v (rest m)
head_then defines p rest body = defined p body
head_then (breaks cause) p rest body = broken cause p

unfoldable pub walk_head : ℕ → HeadMode → List Placed → Head
walk_head n m [] = broken text_ends n
walk_head n m (w ∷ ws) = head_then (head_step m w) w.at (λ k. walk_head n k ws) (walk_body n ending ws)
