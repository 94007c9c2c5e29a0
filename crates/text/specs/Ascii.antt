-- How these specs write bytes, and no rule: a character stands for its number (`code`, which the other modules call
-- `byte`), and a quoted text for the list of its characters' numbers. Every text that they quote is ASCII, so these are
-- its bytes.
use Rattle.std.specs.Prelude.{ℕ, List, [] as []ᴸ, ◌∷◌ as ◌∷ᴸ◌}
use Prim.Native.Char.{code}
use Prim.Native.String.{String, [], ◌∷◌}

-- the bytes of an ASCII text
abbrev pub ascii : String → List ℕ
ascii [] = []ᴸ
ascii (c ∷ s) = code c ∷ᴸ ascii s
