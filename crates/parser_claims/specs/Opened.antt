-- Claims about the law: document 02, request 5, the line that an Outdent carries. proofs/Opened proves them.
use Rattle.std.specs.Prelude.{Some, None, Ok, Err, ℕ, ◌<◌, ◌≡◌, List, [], ◌∷◌, drop, get_or}
use Rattle.tokenizer.specs.Token.{Answer}
use Rattle.tokenizer.specs.declared.token.Token.TheVariants.{
  Newline,
  Comment,
  Indent,
  Outdent,
  ListItem,
  MapKey,
  Value,
  MultilineHint,
  MultilineValue,
  NoValue,
}
use Rattle.parser.specs.Lists.{parse}
use Rattle.parser_claims.specs.Claims.{All}

-- an Outdent carries a line; no other token has one
abbrev pub Carries : Answer → Type 0
Carries None = Unit {0}
Carries (Some (Err e)) = Unit {0}
Carries (Some (Ok (Outdent l o))) = 0 < o
Carries (Some (Ok (Newline l))) = Unit {0}
Carries (Some (Ok (Comment l p))) = Unit {0}
Carries (Some (Ok (Indent l))) = Unit {0}
Carries (Some (Ok (ListItem l))) = Unit {0}
Carries (Some (Ok (MapKey l p))) = Unit {0}
Carries (Some (Ok (Value l p))) = Unit {0}
Carries (Some (Ok (MultilineHint l p))) = Unit {0}
Carries (Some (Ok (MultilineValue l i p))) = Unit {0}
Carries (Some (Ok (NoValue l))) = Unit {0}

-- no section that is closed is the top level, whose record keeps 0
abbrev pub Carried : Type 0
Carried = (d : List ℕ) → All Carries (parse d)

-- The lines that a list's answers carry, written anew from the tokens alone: k is the line of the last key or item, and
-- opened has, innermost first, the line of each that opened a section. An Indent opens one for the last key or item, an
-- Outdent closes the innermost and carries its line.
unfoldable pub reopened : ℕ → List ℕ → List Answer → List Answer
reopened k opened [] = []
reopened k opened (None ∷ l) = None ∷ reopened k opened l
reopened k opened (Some (Err e) ∷ l) = Some (Err e) ∷ reopened k opened l
reopened k opened (Some (Ok (Indent m)) ∷ l) = Some (Ok (Indent m)) ∷ reopened k (k ∷ opened) l
reopened k opened (Some (Ok (Outdent m o)) ∷ l) = Some (Ok (Outdent m (get_or opened 0 0))) ∷ reopened k (drop 1 opened) l
reopened k opened (Some (Ok (ListItem m)) ∷ l) = Some (Ok (ListItem m)) ∷ reopened m opened l
reopened k opened (Some (Ok (MapKey m p)) ∷ l) = Some (Ok (MapKey m p)) ∷ reopened m opened l
reopened k opened (Some (Ok (Newline m)) ∷ l) = Some (Ok (Newline m)) ∷ reopened k opened l
reopened k opened (Some (Ok (Comment m p)) ∷ l) = Some (Ok (Comment m p)) ∷ reopened k opened l
reopened k opened (Some (Ok (Value m p)) ∷ l) = Some (Ok (Value m p)) ∷ reopened k opened l
reopened k opened (Some (Ok (MultilineHint m p)) ∷ l) = Some (Ok (MultilineHint m p)) ∷ reopened k opened l
reopened k opened (Some (Ok (MultilineValue m i p)) ∷ l) = Some (Ok (MultilineValue m i p)) ∷ reopened k opened l
reopened k opened (Some (Ok (NoValue m)) ∷ l) = Some (Ok (NoValue m)) ∷ reopened k opened l

-- they are the lines that the list has: an Outdent carries the line of the key or item that opened its section
abbrev pub Matched : Type 0
Matched = (d : List ℕ) → reopened 0 [] (parse d) ≡ parse d
