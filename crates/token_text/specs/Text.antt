-- Law: document 02, request 1: a key is its text. What the text of a token comes to where no buffer is lent, so that 14 can't
-- arise: 12 and 13 where it may not be read (unescape_source/specs/Source), then what it means. That unescaping shows the
-- same in every buffer: unescape_claims/specs/Texts.
use Rattle.std.specs.Prelude.{ℕ, ◌-◌, List, Bool, false, take, drop, Result, Ok, Err}
use Rattle.text.specs.Bytes.{is_same}
use Rattle.text.specs.declared.refusals.Refusal.{Refusal}
use Rattle.text.specs.declared.refusals.SyntaxError.{SyntaxError}
use Rattle.text.specs.declared.bytes.Part.{Part}
use Rattle.tokenizer.specs.Step.{bytes_of, no_part}
use Rattle.tokenizer.specs.declared.token.Token.{Token}
use Rattle.unescape_pieces.specs.Meaning.{Meaning, part, bytes, refused, refusal_of, shown_from}
use Rattle.unescape_source.specs.Source.{meaning_in, source_in}
use Rattle.unescape_source.specs.declared.source.Source.{Source}

-- its bytes, or its refusal with the part that it shows
pub data Text : Type 0 where
  gives : List ℕ → Text
  fails : Refusal → Part → Text

-- a meaning of the text s, which starts at n
abbrev pub text_by : Meaning → ℕ → List ℕ → Text
text_by (part a e) n s = gives (take (e - a) (drop a s))
text_by (bytes w) n s = gives w
text_by (refused f) n s = fails (refusal_of f) (shown_from n f)

-- a source of the document d, or why there is none
abbrev pub text_of : List ℕ → Result Source SyntaxError → Text
text_of d (Ok w) = text_by (meaning_in d w) w.text.start (bytes_of d w.text)
text_of d (Err e) = fails e.refusal no_part

-- a token's text
unfoldable pub text_in : List ℕ → Token → Text
text_in d t = text_of d (source_in d t)

-- whether it is the bytes w; a text that is refused is none
abbrev pub is_text : Text → List ℕ → Bool
is_text (gives s) w = is_same s w
is_text (fails r p) w = false
