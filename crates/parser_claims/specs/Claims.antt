-- Claims about the law: 1 and 2 for the parser, over the lists of its rules. proofs/Claimed proves them.
use Rattle.std.specs.Prelude.{Some, None, Ok, Err, ℕ, ◌*◌, ◌≤◌, ◌≡◌, List, [], ◌∷◌, length}
use Rattle.tokenizer.specs.Token.{Answer}
use Rattle.text.specs.Numbers.{max_document, invalid_utf8, unexpected_indent, number_of}
use Rattle.tokenizer.specs.declared.token.Token.{Token}
use Rattle.tokenizer_claims.specs.Claims.{PartsFit}
use Rattle.parser.specs.Step.{fresh}
use Rattle.parser.specs.Lists.{Parses, ParseList, parse}
use Rattle.parser.specs.declared.state.State.{State}

-- Claim 1, Ends. The parsing of a document of n bytes within the limit gives at most 2n answers, then End
pub record Ended (d : List ℕ) : Type 0 where
  pub last : State
  pub parses : Parses d fresh (parse d) last
  pub bound : length (parse d) ≤ 2 * length d

abbrev pub Ends : Type 0
Ends = (d : List ℕ) → length d ≤ max_document → Ended d

-- every document has its list, and only one: the parser as a function over the tokenizer's list
pub record TheList (d : List ℕ) : Type 0 where
  pub exists : ParseList d (parse d)
  pub unique : (l : List Answer) → ParseList d l → l ≡ parse d

abbrev pub Lists : Type 0
Lists = (d : List ℕ) → TheList d

abbrev pub TokenFits : List ℕ → Token → Type 0
TokenFits d t = PartsFit (Unit {0}) d t

-- an answer of a parsing: a token whose parts lie within the document and are UTF-8, or a refusal 1 to 7
abbrev pub Fits : List ℕ → Answer → Type 0
Fits d None = ⊥
Fits d (Some (Ok t)) = TokenFits d t
Fits d (Some (Err e)) = (invalid_utf8 ≤ number_of e.refusal) × (number_of e.refusal ≤ unexpected_indent)

abbrev pub All : (Answer → Type 0) → List Answer → Type 0
All P [] = Unit {0}
All P (a ∷ l) = P a × All P l

-- Claim 2, Fit. No fresh parsing answers 15
abbrev pub Fit : Type 0
Fit = (d : List ℕ) → length d ≤ max_document → All (Fits d) (parse d)
