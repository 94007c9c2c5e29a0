-- Claims that tie the unescaping of given bytes to that of tokens, which is the law: how a token of a kind is read, and
-- that a token is unescaped as its bytes are (proofs/ByText proves both).
use Rattle.std.specs.Prelude.{ℕ, ◌≤◌, ◌≡◌, List, true, cond, eqb, length, Result, Ok, Err}
use Rattle.text.specs.Bytes.{shifted_by}
use Rattle.text.specs.Numbers.{max_document, invalid_escape, number_of}
use Rattle.text.specs.declared.bytes.Part.{Part}
use Rattle.text.specs.declared.refusals.Refusal.{Refusal}
use Rattle.tokenizer.specs.Token.{token_values, line_of}
use Rattle.tokenizer.specs.Step.{bytes_of}
use Rattle.tokenizer.specs.declared.token.Token.{Token}
use Rattle.unescape_source.specs.Source.{source_of, sound}
use Rattle.unescape.specs.Unescape.{Unescaped, unescape_of}
use Rattle.unescape.specs.Texts.{style_of, unescape_text_of}
use Rattle.unescape.specs.declared.answer.Answer.{Answer}
use Rattle.unescape.specs.declared.answer.Answer.TheVariants.{Plain, Written}
use Rattle.unescape.specs.declared.answer.Error.{Error}

-- What is said of a text that starts at n in a document, said of the document: n is added to the plain part, and to the
-- part that a refusal shows, which is 8's alone.
abbrev pub shown_in : ℕ → Refusal → Part → Part
shown_in n r p = cond (eqb (number_of r) invalid_escape) (shifted_by n p) p

abbrev pub answer_from : ℕ → Result Answer Error → Result Answer Error
answer_from n (Ok (Plain p)) = Ok (Plain (shifted_by n p))
answer_from n (Ok (Written k)) = Ok (Written k)
answer_from n (Err e) = Err (record { error = e.error; shown = shown_in n e.error.refusal e.shown })

abbrev pub unescaped_from : ℕ → Unescaped → Unescaped
unescaped_from n u = record { answer = answer_from n u.answer; buffer = u.buffer }

-- a token's kind says how it is read
abbrev pub KindsRead : Type 0
KindsRead = (t : Token) → style_of (token_values t).number ≡ (source_of t).style

-- a token whose text and indentation are sound parts of a document is unescaped as their bytes are
abbrev pub TokensByText : Type 0
TokensByText =
    (d : List ℕ) (t : Token) (o : List ℕ) → length d ≤ max_document → sound d (source_of t).text ≡ true → sound d (source_of t).indent ≡ true
    → unescape_of d t o
    ≡ unescaped_from (source_of t).text.start
    (unescape_text_of (source_of t).style (bytes_of d (source_of t).text) (bytes_of d (source_of t).indent) (line_of t) o)
