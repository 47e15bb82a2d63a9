-- A text in quotes as bytes.
-- Assumes nothing.
use Rattle.std.specs.Prelude.{ℕ, List, [], ◌∷◌}
use Prim.Native.Char.{code}
use Prim.Native.String as Text
use Prim.Native.String.{String}

-- a text in ASCII
abbrev pub ascii : String → List ℕ
ascii Text.[] = []
ascii (Text.◌∷◌ c s) = code c ∷ ascii s
