-- Why a dump is refused. Each cause is a number; its hundreds are the refusal of document 02: 24, 25 or 26.
-- Assumes nothing.
use Rattle.std.specs.Prelude.{ℕ, ◌/◌, ◌-◌, ◌^◌}

-- the refusal of a cause
abbrev pub refusal_of : ℕ → ℕ
refusal_of cause = cause / 100

-- stands for the place of what has none: arguments, levels, and no refusal
abbrev pub no_place : ℕ
no_place = 2 ^ 64 - 1

-- ---- the arguments

abbrev pub offset_out : ℕ
offset_out = 2401

abbrev pub period_out : ℕ
period_out = 2402

abbrev pub count_out : ℕ
count_out = 2403

-- ---- the text

abbrev pub text_ends : ℕ
text_ends = 2404

-- a word that begins with $ and begins nothing of the syntax
abbrev pub unknown_keyword : ℕ
unknown_keyword = 2405

abbrev pub not_adeclaration : ℕ
not_adeclaration = 2406

abbrev pub end_missing : ℕ
end_missing = 2407

abbrev pub wrong_timescale : ℕ
wrong_timescale = 2408

abbrev pub wrong_scope_type : ℕ
wrong_scope_type = 2409

abbrev pub wrong_scope_name : ℕ
wrong_scope_name = 2410

abbrev pub wrong_var_type : ℕ
wrong_var_type = 2411

abbrev pub wrong_size : ℕ
wrong_size = 2412

abbrev pub wrong_var_code : ℕ
wrong_var_code = 2413

abbrev pub wrong_var_name : ℕ
wrong_var_name = 2414

-- a word after a variable's name that is no index
abbrev pub wrong_index : ℕ
wrong_index = 2415

-- a declaration among times and changes
abbrev pub late_declaration : ℕ
late_declaration = 2416

-- something other than a change in a block
abbrev pub not_achange : ℕ
not_achange = 2417

abbrev pub wrong_time : ℕ
wrong_time = 2418

abbrev pub wrong_scalar : ℕ
wrong_scalar = 2419

abbrev pub wrong_vector : ℕ
wrong_vector = 2420

abbrev pub wrong_real : ℕ
wrong_real = 2421

-- the code of a vector or a real
abbrev pub wrong_code : ℕ
wrong_code = 2422

abbrev pub unknown_word : ℕ
unknown_word = 2423

-- ---- the levels

abbrev pub no_level_at : ℕ
no_level_at = 2424

-- ---- the name

abbrev pub never_declared : ℕ
never_declared = 2501

abbrev pub declared_twice : ℕ
declared_twice = 2502

-- ---- the times

abbrev pub time_before : ℕ
time_before = 2601
