-- Law: document 01, 'Unescaping': a token of P then S unescapes alike if, with equal buffers, unescaping it there and,
-- unraised, in P or S alone gives the same bytes (both times as a part or both times written) or the same number (line
-- and shown part raised for S's tokens only), and leaves equal buffers.
use Rattle.std.specs.Prelude.{ℕ, ◌+◌, ◌≡◌, List, cond, eqb, Result, Ok, Err}
use Rattle.text.specs.Bytes.{shifted_by}
use Rattle.text.specs.Numbers.{invalid_escape, number_of}
use Rattle.text.specs.declared.refusals.Refusal.{Refusal}
use Rattle.text.specs.declared.bytes.Part.{Part}
use Rattle.tokenizer.specs.Step.{bytes_of}
use Rattle.tokenizer.specs.declared.token.Token.{Token}
use Rattle.unescape.specs.Unescape.{unescape_of}
use Rattle.unescape.specs.declared.answer.Answer.{Answer}
use Rattle.unescape.specs.declared.answer.Answer.TheVariants.{Plain, Written}
use Rattle.unescape.specs.declared.answer.Error.{Error}

-- the part that a refusal shows: only 8 has one
abbrev pub raise_shown : ℕ → Refusal → Part → Part
raise_shown n r q = cond (eqb (number_of r) invalid_escape) (shifted_by n q) q

-- an answer about the document d and one about e, whose lines and places are l and n lower
unfoldable pub Same : ℕ → ℕ → List ℕ → Result Answer Error → List ℕ → Result Answer Error → Type 0
Same l n d (Ok (Plain p)) e (Ok (Plain q)) = bytes_of d p ≡ bytes_of e q
Same l n d (Ok (Plain p)) e (Ok (Written k)) = ⊥
Same l n d (Ok (Written j)) e (Ok (Plain q)) = ⊥
Same l n d (Ok (Written j)) e (Ok (Written k)) = j ≡ k
Same l n d (Ok a) e (Err y) = ⊥
Same l n d (Err x) e (Ok b) = ⊥
Same l n d (Err x) e (Err y) =
    (x.error.refusal ≡ y.error.refusal) × (x.error.line ≡ l + y.error.line) × (x.shown ≡ raise_shown n y.error.refusal y.shown)

-- a token t of d and the token u of e that it is raised from, with every buffer; equal buffers hold equal written texts
pub record Alike (l n : ℕ) (d : List ℕ) (t : Token) (e : List ℕ) (u : Token) : Type 0 where
  pub answers : (o : List ℕ) → Same l n d (unescape_of d t o).answer e (unescape_of e u o).answer
  pub buffers : (o : List ℕ) → (unescape_of d t o).buffer ≡ (unescape_of e u o).buffer
