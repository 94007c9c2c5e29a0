-- The lines that Outdents carry, written anew from a list in which all are 0. That the parser gives these is in its own
-- Examples.
use Rattle.std.specs.Prelude.{Some, Ok}
use Rattle.tokenizer.specs.Token.{Answer}
use Prim.Native.Nat.{ℕ}
use mathlib.Core.Path.{◌≡◌, refl}
use mathlib.Core.List.{List, [], ◌∷◌}
use Rattle.text.specs.Bytes.{part}
use Rattle.tokenizer.specs.declared.token.Token.TheVariants.{Newline, Indent, Outdent, ListItem, MapKey, Value}
use Rattle.parser_claims.specs.Opened.{reopened}

-- the answers to `=` LF ` a` LF `  b=1` LF ` c=2`, whose two Outdents carry i and o
abbrev nested : ℕ → ℕ → List Answer
nested i o =
    Some (Ok (ListItem 1))
    ∷ Some (Ok (Newline 1))
    ∷ Some (Ok (Indent 2))
    ∷ Some (Ok (MapKey 2 (part 3 4)))
    ∷ Some (Ok (Newline 2))
    ∷ Some (Ok (Indent 3))
    ∷ Some (Ok (MapKey 3 (part 7 8)))
    ∷ Some (Ok (Value 3 (part 9 10)))
    ∷ Some (Ok (Newline 3))
    ∷ Some (Ok (Outdent 4 i))
    ∷ Some (Ok (MapKey 4 (part 12 13)))
    ∷ Some (Ok (Value 4 (part 14 15)))
    ∷ Some (Ok (Outdent 4 o))
    ∷ []

-- the inner section is of the key `a` on line 2, the outer one of the item on line 1
pub nested-reopened : reopened 0 [] (nested 0 0) ≡ nested 2 1
unfolding reopened
nested-reopened = refl
