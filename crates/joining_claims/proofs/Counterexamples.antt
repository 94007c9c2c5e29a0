-- Each condition of the theorem is needed: for a pair that meets all but one, the two lists, computed from the rules, differ.
use Rattle.std.specs.Prelude.{Some, Ok, Err}
use Rattle.tokenizer.specs.Token.{Answer, Answer as Said}
use Rattle.text.specs.Numbers.{error}
use Rattle.text.specs.declared.refusals.Refusal.TheVariants.{InvalidUtf8}
use Prim.Native.Nat.{ℕ}
use mathlib.Core.Path.{◌≡◌, refl}
use mathlib.Core.List.{List, [], ◌∷◌, ◌++◌}
use mathlib.Core.Bool.{true}
use lib.ListN.{length}
use Rattle.text.specs.Bytes.{part}
use Rattle.text.specs.Ascii.{ascii}
use Rattle.tokenizer_scans.specs.Scans.{breaks}
use Rattle.tokenizer.specs.Lists.{tokens}
use Rattle.tokenizer.specs.declared.token.Token.TheVariants.{Newline, Comment, Indent, Outdent, MapKey, NoValue}
use Rattle.tokenizer.proofs.Examples.{rules}
use Rattle.parser.specs.Lists.{parse}
use Rattle.parser.proofs.Examples.{rules as parse_rules}
use Rattle.joining_claims.specs.Raising.{raise_token, raise, raised}
use Rattle.joining_claims.specs.Tokens.{Closed, top_level}

-- the list for P then S is l; the one for P, then the one for S raised, is m; and these are not the same
abbrev pub Apart : List ℕ → List ℕ → List Answer → List Answer → Type 0
Apart p s l m = (tokens (p ++ s) ≡ l) × (tokens p ++ raised (breaks p) (length p) (tokens s) ≡ m) × (l ≡ m → ⊥)

-- P does not end in a break: `a` then `a` is one key
pub no-break : (top_level (ascii "a") ≡ true)
    × Apart (ascii "a") (ascii "a") (Some (Ok (MapKey 1 (part 0 2))) ∷ []) (Some (Ok (MapKey 1 (part 0 1))) ∷ Some (Ok (MapKey 1 (part 1 2))) ∷ [])
unfolding top_level rules raise raise_token
no-break = (refl, (refl, refl, λ e. cc))

-- ` a` LF, the P of the next three
abbrev pub section : List ℕ
section = ascii " a\n"

-- S begins with `;`: a comment closes no section
pub comment : Closed section
    × Apart section (ascii ";")
    (Some (Ok (Indent 1)) ∷ Some (Ok (MapKey 1 (part 1 2))) ∷ Some (Ok (Newline 1)) ∷ Some (Ok (Comment 2 (part 4 4))) ∷ Some (Ok (Outdent 2 0)) ∷ [])
    (Some (Ok (Indent 1)) ∷ Some (Ok (MapKey 1 (part 1 2))) ∷ Some (Ok (Newline 1)) ∷ Some (Ok (Outdent 2 0)) ∷ Some (Ok (Comment 2 (part 4 4))) ∷ [])
unfolding rules raise raise_token
comment = (refl, (refl, refl, λ e. cc))

-- S begins with a blank: ` a` goes on in the open section
pub blank : Closed section
    × Apart section (ascii " a")
    (Some (Ok (Indent 1)) ∷ Some (Ok (MapKey 1 (part 1 2))) ∷ Some (Ok (Newline 1)) ∷ Some (Ok (MapKey 2 (part 4 5))) ∷ Some (Ok (Outdent 2 0)) ∷ [])
    (Some (Ok (Indent 1))
    ∷ Some (Ok (MapKey 1 (part 1 2)))
    ∷ Some (Ok (Newline 1))
    ∷ Some (Ok (Outdent 2 0))
    ∷ Some (Ok (Indent 2))
    ∷ Some (Ok (MapKey 2 (part 4 5)))
    ∷ Some (Ok (Outdent 2 0))
    ∷ [])
unfolding rules raise raise_token
blank = (refl, (refl, refl, λ e. cc))

-- S begins with LF: an empty line closes no section
pub line-feed : Closed section
    × Apart section (ascii "\n")
    (Some (Ok (Indent 1)) ∷ Some (Ok (MapKey 1 (part 1 2))) ∷ Some (Ok (Newline 1)) ∷ Some (Ok (Newline 2)) ∷ Some (Ok (Outdent 3 0)) ∷ [])
    (Some (Ok (Indent 1)) ∷ Some (Ok (MapKey 1 (part 1 2))) ∷ Some (Ok (Newline 1)) ∷ Some (Ok (Outdent 2 0)) ∷ Some (Ok (Newline 2)) ∷ [])
unfolding rules raise raise_token
line-feed = (refl, (refl, refl, λ e. cc))

-- S begins with LF: CR then LF is one break
pub cr-lf : Closed (ascii "\r") × Apart (ascii "\r") (ascii "\n") (Some (Ok (Newline 1)) ∷ []) (Some (Ok (Newline 1)) ∷ Some (Ok (Newline 2)) ∷ [])
unfolding rules raise raise_token
cr-lf = (refl, (refl, refl, λ e. cc))

-- For the parser S's list has to begin with a key or an item: `a` LF then the byte FF. P's own list ends with a NoValue, and
-- that of P then S has the refusal in its place.
pub no-entry : (parse (ascii "a\n") ≡ Some (Ok (MapKey 1 (part 0 1))) ∷ Some (Ok (Newline 1)) ∷ Some (Ok (NoValue 1)) ∷ [])
    × (parse (ascii "a\n" ++ 0xFF ∷ []) ≡ Some (Ok (MapKey 1 (part 0 1))) ∷ Some (Ok (Newline 1)) ∷ Some (Err (error InvalidUtf8 2)) ∷ [])
    × ((l : List Said) → parse (ascii "a\n" ++ 0xFF ∷ []) ≡ parse (ascii "a\n") ++ l → ⊥)
unfolding parse_rules
no-entry = (refl, refl, λ l e. cc)
