-- Law: document 01, 'Bytes and UTF-8': blanks, line breaks, the line's end; and texts compared. A text is the list of its
-- bytes.
use Rattle.std.specs.Prelude.{ℕ, ◌+◌, List, [], ◌∷◌, Bool, cond, not, ◌||◌, ◌&&◌, eqb}
use Rattle.std.specs.List.{prefix_len, starts_with as begins}
use Rattle.std.specs.Str.{bytes_eq}
use Prim.Native.Char.{code as byte}
use Rattle.text.specs.declared.bytes.Part.{Part}

-- a blank: a space or a tab
unfoldable pub is_blank : ℕ → Bool
is_blank b = eqb b (byte " ") || eqb b (byte "\t")

-- CR or LF
unfoldable pub is_break : ℕ → Bool
is_break b = eqb b (byte "\r") || eqb b (byte "\n")

abbrev pub not_break : ℕ → Bool
not_break b = not (is_break b)

-- the size of the line break that the text begins with: CR LF is one of two bytes; 0 where it begins with none
unfoldable pub break_size : List ℕ → ℕ
break_size [] = 0
break_size (b ∷ []) = cond (is_break b) 1 0
break_size (b ∷ c ∷ r) = cond (is_break b) (cond (eqb b (byte "\r") && eqb c (byte "\n")) 2 1) 0

-- how many bytes stand before the first CR or LF
abbrev pub line_end : List ℕ → ℕ
line_end s = prefix_len not_break s

-- whether the text begins with the bytes of p
unfoldable pub starts_with : List ℕ → List ℕ → Bool
starts_with p s = begins eqb s p

-- the same bytes
unfoldable pub is_same : List ℕ → List ℕ → Bool
is_same s t = bytes_eq s t

-- a part by its start and its end
abbrev pub part : ℕ → ℕ → Part
part a e = record { start = a; end = e }

-- a part, counted from n bytes further in front
abbrev pub shifted_by : ℕ → Part → Part
shifted_by n p = part (n + p.start) (n + p.end)
