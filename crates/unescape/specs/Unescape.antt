-- Law: document 01, 'Unescaping' and 'Numbers by the place where they are checked': a token of a document with a lent
-- buffer. 12 and 13 where it may not be read (unescape_source/specs/Source), then 8 to 11, then 14.
use Rattle.std.specs.Prelude.{ℕ, ◌+◌, List, [], ◌++◌, cond, leb, length, drop, Result, Ok, Err}
use Rattle.text.specs.Numbers.{error}
use Rattle.text.specs.declared.bytes.Part.{Part}
use Rattle.text.specs.declared.refusals.Refusal.{Refusal}
use Rattle.text.specs.declared.refusals.Refusal.TheVariants.{ShortBuffer}
use Rattle.text.specs.declared.refusals.SyntaxError.{SyntaxError}
use Rattle.tokenizer.specs.Token.{line_of}
use Rattle.tokenizer.specs.Step.{bytes_of, no_part}
use Rattle.tokenizer.specs.declared.token.Token.{Token}
use Rattle.unescape_pieces.specs.Meaning.{Meaning, part, bytes, refused, refusal_of, shown_from}
use Rattle.unescape_source.specs.Source.{meaning_in, source_in}
use Rattle.unescape_source.specs.declared.source.Source.{Source}
use Rattle.unescape.specs.declared.answer.Answer.{Answer}
use Rattle.unescape.specs.declared.answer.Answer.TheVariants.{Plain, Written}
use Rattle.unescape.specs.declared.answer.Error.{Error}

-- the answer or its refusal, and the buffer after it
pub record Unescaped : Type 0 where
  pub answer : Result Answer Error
  pub buffer : List ℕ

abbrev pub kept_buffer : Result Answer Error → List ℕ → Unescaped
kept_buffer a o = record { answer = a; buffer = o }

-- a refusal on line l, and the part that it shows
abbrev pub refused_at : Refusal → ℕ → Part → Result Answer Error
refused_at r l p = Err (record { error = error r l; shown = p })

-- a meaning of a text that starts at n, on line l: written text fills the buffer's first bytes, and 14 is for a shorter buffer
unfoldable pub delivered : Meaning → ℕ → ℕ → List ℕ → Unescaped
delivered (part a e) n l o = kept_buffer (Ok (Plain (record { start = n + a; end = n + e }))) o
delivered (bytes w) n l o =
    cond (leb (length w) (length o))
    (record { answer = Ok (Written (length w)); buffer = w ++ drop (length w) o })
    (kept_buffer (refused_at ShortBuffer l no_part) o)
delivered (refused f) n l o = kept_buffer (refused_at (refusal_of f) l (shown_from n f)) o

-- a source on line l, or its refusal
abbrev pub source_delivered : List ℕ → Result Source SyntaxError → ℕ → List ℕ → Unescaped
source_delivered d (Ok w) l o = delivered (meaning_in d w) w.text.start l o
source_delivered d (Err e) l o = kept_buffer (refused_at e.refusal e.line no_part) o

-- a token of a document, unescaped
unfoldable pub unescape_of : List ℕ → Token → List ℕ → Unescaped
unescape_of d t o = source_delivered d (source_in d t) (line_of t) o

-- the bytes of the part that is answered, else none
abbrev pub shown_by : List ℕ → Result Answer Error → List ℕ
shown_by d (Ok (Plain p)) = bytes_of d p
shown_by d (Ok (Written n)) = []
shown_by d (Err e) = []

-- the text of a token that is not rewritten: what unescaping answers, whatever the buffer
unfoldable pub plain_of : List ℕ → Token → List ℕ
plain_of d t = shown_by d (unescape_of d t []).answer
