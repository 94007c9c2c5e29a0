-- Claims about the law: 1 and 2 for the tokenizer, over the lists of its rules. proofs/Claimed proves them.
use Rattle.std.specs.Prelude.{Some, None, Ok, Err, ℕ, ◌*◌, ◌≤◌, ◌≡◌, List, [], ◌∷◌, true, length, drop}
use Rattle.tokenizer.specs.Token.{Answer}
use Rattle.utf8.specs.Utf8.{utf8}
use Rattle.text.specs.Numbers.{number_of, max_document, invalid_utf8, too_many_open}
use Rattle.text.specs.declared.bytes.Part.{Part}
use Rattle.tokenizer_scans.specs.Scans.{blanks}
use Rattle.tokenizer.specs.Step.{bytes_of, fresh}
use Rattle.tokenizer.specs.Lists.{Reads, TokenList, tokens}
use Rattle.tokenizer.specs.declared.token.Token.{Token}
use Rattle.tokenizer.specs.declared.token.Token.TheVariants.{
  Newline,
  Comment,
  Indent,
  Outdent,
  ListItem,
  MapKey,
  Value,
  MultilineHint,
  MultilineValue,
  NoValue,
}
use Rattle.tokenizer.specs.declared.state.State.{State}

-- Claim 1, Ends. The reading of a document of n bytes within the limit: at most 2n answers, then End; only blanks remain from the
-- place, and no section is open
pub record Ended (d : List ℕ) : Type 0 where
  pub last : State
  pub reads : Reads d fresh (tokens d) last
  pub bound : length (tokens d) ≤ 2 * length d
  pub only_blanks : blanks (drop last.place d) ≡ length (drop last.place d)
  pub closed : last.depth ≡ 0

abbrev pub Ends : Type 0
Ends = (d : List ℕ) → length d ≤ max_document → Ended d

-- every document has its list, and only one
pub record TheList (d : List ℕ) : Type 0 where
  pub exists : TokenList d (tokens d)
  pub unique : (l : List Answer) → TokenList d l → l ≡ tokens d

abbrev pub Lists : Type 0
Lists = (d : List ℕ) → TheList d

-- a part of the document
pub record Within (d : List ℕ) (p : Part) : Type 0 where
  pub starts : p.start ≤ p.end
  pub ends : p.end ≤ length d

-- a part of the document that is UTF-8
pub record Text (d : List ℕ) (p : Part) : Type 0 where
  pub within : Within d p
  pub valid : utf8 (bytes_of d p) ≡ true

-- the parts of a token fit; N is asked of a NoValue, which the tokenizer never gives
abbrev pub PartsFit : Type 0 → List ℕ → Token → Type 0
PartsFit N d (Newline l) = Unit {0}
PartsFit N d (Comment l p) = Text d p
PartsFit N d (Indent l) = Unit {0}
PartsFit N d (Outdent l o) = Unit {0}
PartsFit N d (ListItem l) = Unit {0}
PartsFit N d (MapKey l p) = Text d p
PartsFit N d (Value l p) = Text d p
PartsFit N d (MultilineHint l p) = Text d p
PartsFit N d (MultilineValue l i p) = Text d i × Text d p
PartsFit N d (NoValue l) = N

abbrev pub TokenFits : List ℕ → Token → Type 0
TokenFits d t = PartsFit ⊥ d t

-- an answer of a reading: a token whose parts lie within the document and are UTF-8, or a refusal 1, 2 or 3
abbrev pub Fits : List ℕ → Answer → Type 0
Fits d None = ⊥
Fits d (Some (Ok t)) = TokenFits d t
Fits d (Some (Err e)) = (invalid_utf8 ≤ number_of e.refusal) × (number_of e.refusal ≤ too_many_open)

abbrev pub All : (Answer → Type 0) → List Answer → Type 0
All P [] = Unit {0}
All P (a ∷ l) = P a × All P l

-- Claim 2, Fit. No fresh reading answers 15, and no text or indentation of one is refused by 13
abbrev pub Fit : Type 0
Fit = (d : List ℕ) → length d ≤ max_document → All (Fits d) (tokens d)
