-- Whatever words a text has: every time that is read is below 2^62, every level is 0, 1 or 2 (none), and every break of the syntax is of the refusal 24.
-- Assumes nothing.
use mathlib.Core.Path.{◌≡◌, refl}
use mathlib.Core.Bool.{Bool}
use mathlib.Core.List.{List, [], ◌∷◌}
use Prim.Native.Nat.{ℕ, ◌<◌}
use lib.Dec.{eqb, ltb, lit<}
use borrow.Author.Tests.{ltb-true}
use Rattle.dshot_reply_spec.specs.Answer.{Answer, given, refused}
use Rattle.dump_spec.specs.Causes.{refusal_of}
use Rattle.dump_spec.specs.Words.{Word, Placed, same, one_of, is_end, is_name, is_code}
use Rattle.dump_spec.specs.Numbers.{time_limit, number_of, is_real}
use Rattle.dump_spec.specs.Names.{Part, is_outside, index_word, is_wrong}
use Rattle.dump_spec.specs.Kinds as K
use Rattle.dump_spec.specs.Kinds.{Kind, Keyword, Scale, scope_types, var_types, units, unit_in, scale_of, keywords, keyword_of, time_kind, is_value, level_of}
use Rattle.dump_spec.specs.Kinds.{is_b, is_digits, is_r, kind_of, wrong_word}
use Rattle.dump_spec.specs.Walk as W
use Rattle.dump_spec.specs.Walk.{Body, Head, BodyMode, BodyStep, HeadMode, HeadStep, Variable, needs, wrong_declaration, declaration_step, scale_step}
use Rattle.dump_spec.specs.Walk.{size_step, index_step, head_step, item_step, block_step, body_step, at_end, body_then, walk_body, head_then, walk_head}
use Rattle.dump_spec.proofs.Outcomes.{chosen}

abbrev pub Bounded : Body → Type 0
Bounded W.done = Unit {0}
Bounded (W.broken cause place) = refusal_of cause ≡ 24
Bounded (W.time t place rest) = (t < time_limit) × Bounded rest
Bounded (W.change l c rest) = (l < 3) × Bounded rest

abbrev pub BoundedHead : Head → Type 0
BoundedHead (W.broken cause place) = refusal_of cause ≡ 24
BoundedHead (W.timescale u rest) = BoundedHead rest
BoundedHead (W.variable v rest) = BoundedHead rest
BoundedHead (W.defined place body) = Bounded body

-- ---- words

abbrev KindBounded : Kind → Type 0
KindBounded K.comment = Unit {0}
KindBounded K.note = Unit {0}
KindBounded K.timescale = Unit {0}
KindBounded K.scope = Unit {0}
KindBounded K.upscope = Unit {0}
KindBounded K.var = Unit {0}
KindBounded K.enddefinitions = Unit {0}
KindBounded K.block = Unit {0}
KindBounded K.vector = Unit {0}
KindBounded K.real = Unit {0}
KindBounded K.other = Unit {0}
KindBounded (K.time t) = t < time_limit
KindBounded (K.change l c) = l < 3

abbrev KeysBounded : List Keyword → Type 0
KeysBounded [] = Unit {0}
KeysBounded (k ∷ ks) = KindBounded k.kind × KeysBounded ks

key-bounded : (ks : List Keyword) (w : Word) → KeysBounded ks → KindBounded (keyword_of ks w)
key-bounded [] w h = tt
key-bounded (k ∷ ks) w h = chosen KindBounded (same w k.word) k.kind (keyword_of ks w) (λ e. h.0) (λ e. key-bounded ks w h.1)

time-bounded : (a : Answer ℕ) → KindBounded (time_kind a)
time-bounded (given t) = chosen KindBounded (ltb t time_limit) (K.time t) K.other (λ e. ltb-true t time_limit e) (λ e. tt)
time-bounded (refused n) = tt

level-bounded : (b : ℕ) → level_of b < 3
unfolding level_of
level-bounded b = chosen (λ l. l < 3) (eqb b 48) 0 _ (λ e. lit< tt) (λ e. chosen (λ l. l < 3) (eqb b 49) 1 2 (λ e. lit< tt) (λ e. lit< tt))

kind-bounded : (w : Word) → KindBounded (kind_of w)
unfolding kind_of
kind-bounded [] = tt
kind-bounded (b ∷ w) =
    chosen KindBounded (eqb b 36) (keyword_of keywords (b ∷ w)) _
    (λ e. key-bounded keywords (b ∷ w) (tt, (tt, (tt, (tt, (tt, (tt, (tt, (tt, (tt, (tt, (tt, (tt, tt)))))))))))))
    (λ e. chosen KindBounded (eqb b 35) (time_kind (number_of w)) _ (λ e. time-bounded (number_of w))
    (λ e. chosen KindBounded (is_value b) _ _ (λ e. chosen KindBounded (is_code w) (K.change (level_of b) w) K.other (λ e. level-bounded b) (λ e. tt))
    (λ e. chosen KindBounded (is_b b) _ _ (λ e. chosen KindBounded (is_digits w) K.vector K.other (λ e. tt) (λ e. tt))
    (λ e. chosen KindBounded (is_r b) _ _ (λ e. chosen KindBounded (is_real w) K.real K.other (λ e. tt) (λ e. tt)) (λ e. tt)))))

abbrev Is24 : ℕ → Type 0
Is24 cause = refusal_of cause ≡ 24

wrong_word-bounded : (w : Word) → Is24 (wrong_word w)
unfolding wrong_word
wrong_word-bounded [] = refl
wrong_word-bounded (b ∷ w) =
    chosen Is24 (eqb b 36) _ _ (λ e. refl)
    (λ e. chosen Is24 (eqb b 35) _ _ (λ e. refl)
    (λ e. chosen Is24 (is_value b) _ _ (λ e. refl)
    (λ e. chosen Is24 (is_b b) _ _ (λ e. refl)
    (λ e. chosen Is24 (is_r b) _ _ (λ e. refl) (λ e. refl)))))

-- ---- times and changes

abbrev StepBounded : BodyStep → Type 0
StepBounded (W.goes m) = Unit {0}
StepBounded (W.times t) = t < time_limit
StepBounded (W.changes l c m) = l < 3
StepBounded (W.breaks cause) = Is24 cause

item-bounded : (w : Word) (k : Kind) → KindBounded k → StepBounded (item_step w k)
item-bounded w K.comment h = tt
item-bounded w K.note h = refl
item-bounded w K.timescale h = refl
item-bounded w K.scope h = refl
item-bounded w K.upscope h = refl
item-bounded w K.var h = refl
item-bounded w K.enddefinitions h = refl
item-bounded w K.block h = tt
item-bounded w K.vector h = tt
item-bounded w K.real h = tt
item-bounded w K.other h = wrong_word-bounded w
item-bounded w (K.time t) h = h
item-bounded w (K.change l c) h = h

block-bounded : (w : Word) (k : Kind) → KindBounded k → StepBounded (block_step w k)
block-bounded w K.comment h = refl
block-bounded w K.note h = refl
block-bounded w K.timescale h = refl
block-bounded w K.scope h = refl
block-bounded w K.upscope h = refl
block-bounded w K.var h = refl
block-bounded w K.enddefinitions h = refl
block-bounded w K.block h = refl
block-bounded w K.vector h = tt
block-bounded w K.real h = tt
block-bounded w K.other h = wrong_word-bounded w
block-bounded w (K.time t) h = refl
block-bounded w (K.change l c) h = h

step-bounded : (m : BodyMode) (w : Word) → StepBounded (body_step m w)
step-bounded W.ending w = chosen StepBounded (is_end w) _ _ (λ e. tt) (λ e. refl)
step-bounded W.items w = item-bounded w (kind_of w) (kind-bounded w)
step-bounded W.text w = tt
step-bounded W.in_block w = chosen StepBounded (is_end w) _ _ (λ e. tt) (λ e. block-bounded w (kind_of w) (kind-bounded w))
step-bounded W.item_code w = chosen StepBounded (is_name w) _ _ (λ e. tt) (λ e. refl)
step-bounded W.block_code w = chosen StepBounded (is_name w) _ _ (λ e. tt) (λ e. refl)

end-bounded : (n : ℕ) (m : BodyMode) → Bounded (at_end n m)
end-bounded n W.ending = refl
end-bounded n W.items = tt
end-bounded n W.text = refl
end-bounded n W.in_block = refl
end-bounded n W.item_code = refl
end-bounded n W.block_code = refl

then-bounded : (s : BodyStep) (p : ℕ) (rest : BodyMode → Body) → StepBounded s → ((m : BodyMode) → Bounded (rest m)) → Bounded (body_then s p rest)
then-bounded (W.goes m) p rest h r = r m
then-bounded (W.times t) p rest h r = (h, r W.items)
then-bounded (W.changes l c m) p rest h r = (h, r m)
then-bounded (W.breaks cause) p rest h r = h

pub body-bounded : (n : ℕ) (m : BodyMode) (ws : List Placed) → Bounded (walk_body n m ws)
unfolding walk_body
body-bounded n m [] = end-bounded n m
body-bounded n m (w ∷ ws) = then-bounded (body_step m w.bytes) w.at (λ k. walk_body n k ws) (step-bounded m w.bytes) (λ k. body-bounded n k ws)

-- ---- declarations

abbrev HeadStepBounded : HeadStep → Type 0
HeadStepBounded (W.goes m) = Unit {0}
HeadStepBounded (W.scales u m) = Unit {0}
HeadStepBounded (W.declares v m) = Unit {0}
HeadStepBounded W.defines = Unit {0}
HeadStepBounded (W.breaks cause) = Is24 cause

wrong-declaration : (w : Word) → Is24 (wrong_declaration w)
unfolding wrong_declaration
wrong-declaration [] = refl
wrong-declaration (b ∷ w) = chosen Is24 (eqb b 36) _ _ (λ e. refl) (λ e. refl)

declaration-bounded : (w : Word) (k : Kind) → HeadStepBounded (declaration_step w k)
declaration-bounded w K.comment = tt
declaration-bounded w K.note = tt
declaration-bounded w K.timescale = tt
declaration-bounded w K.scope = tt
declaration-bounded w K.upscope = tt
declaration-bounded w K.var = tt
declaration-bounded w K.enddefinitions = tt
declaration-bounded w K.block = refl
declaration-bounded w K.vector = refl
declaration-bounded w K.real = refl
declaration-bounded w K.other = wrong-declaration w
declaration-bounded w (K.time t) = refl
declaration-bounded w (K.change l c) = refl

scale-bounded : (s : Scale) → HeadStepBounded (scale_step s)
scale-bounded (K.number n) = tt
scale-bounded (K.unit u) = tt
scale-bounded K.wrong = refl

size-bounded : (a : Answer ℕ) → HeadStepBounded (size_step a)
size-bounded (given n) = tt
size-bounded (refused n) = refl

needs-bounded : (b : Bool) (m : HeadMode) (cause : ℕ) → Is24 cause → HeadStepBounded (needs b m cause)
needs-bounded b m cause h = chosen HeadStepBounded b (W.goes m) (W.breaks cause) (λ e. tt) (λ e. h)

index-bounded : (v : Variable) (p : Part) (w : Placed) → HeadStepBounded (index_step v p w)
index-bounded v p w =
    chosen HeadStepBounded (is_end w.bytes) _ _ (λ e. chosen HeadStepBounded (is_outside p) _ _ (λ e. tt) (λ e. refl))
    (λ e. chosen HeadStepBounded (is_wrong (index_word p w.bytes)) _ _ (λ e. refl) (λ e. tt))

head-step-bounded : (m : HeadMode) (w : Placed) → HeadStepBounded (head_step m w)
head-step-bounded W.declaration w = declaration-bounded w.bytes (kind_of w.bytes)
head-step-bounded W.text w = tt
head-step-bounded W.scale w = scale-bounded (scale_of w.bytes)
head-step-bounded W.scope_type w = needs-bounded (one_of scope_types w.bytes) _ _ refl
head-step-bounded W.scope_name w = needs-bounded (is_name w.bytes) _ _ refl
head-step-bounded W.closing w = needs-bounded (is_end w.bytes) _ _ refl
head-step-bounded W.var_type w = needs-bounded (one_of var_types w.bytes) _ _ refl
head-step-bounded W.var_size w = size-bounded (number_of w.bytes)
head-step-bounded (W.scale_unit n) w = scale-bounded (unit_in units n w.bytes)
head-step-bounded (W.var_code n) w = needs-bounded (is_name w.bytes) _ _ refl
head-step-bounded (W.var_name n c) w = needs-bounded (is_name w.bytes) _ _ refl
head-step-bounded (W.var_index v p) w = index-bounded v p w

head-then-bounded : (s : HeadStep) (p : ℕ) (rest : HeadMode → Head) (body : Body) → HeadStepBounded s → ((m : HeadMode) → BoundedHead (rest m)) → Bounded body
    → BoundedHead (head_then s p rest body)
head-then-bounded (W.goes m) p rest body h r b = r m
head-then-bounded (W.scales u m) p rest body h r b = r m
head-then-bounded (W.declares v m) p rest body h r b = r m
head-then-bounded W.defines p rest body h r b = b
head-then-bounded (W.breaks cause) p rest body h r b = h

pub head-bounded : (n : ℕ) (m : HeadMode) (ws : List Placed) → BoundedHead (walk_head n m ws)
unfolding walk_head
head-bounded n m [] = refl
head-bounded n m (w ∷ ws) =
    head-then-bounded (head_step m w) w.at (λ k. walk_head n k ws) (walk_body n W.ending ws) (head-step-bounded m w) (λ k. head-bounded n k ws)
    (body-bounded n W.ending ws)
