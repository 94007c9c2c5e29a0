-- Law: document 01, 'Unescaping' and 'Numbers by the place where they are checked': a token's text and how it is read, and
-- whether it may be read: 12, then 13.
use Rattle.std.specs.Prelude.{ℕ, ◌≤◌, List, Bool, cond, ◌&&◌, ltb, length, Result, Ok, Err}
use Rattle.text.specs.Numbers.{max_document, error}
use Rattle.text.specs.declared.refusals.Refusal.TheVariants.{TooLong, UnfitToken}
use Rattle.text.specs.declared.refusals.SyntaxError.{SyntaxError}
use Rattle.utf8.specs.Utf8.{utf8}
use Rattle.text.specs.declared.bytes.Part.{Part}
use Rattle.tokenizer.specs.Token.{line_of}
use Rattle.tokenizer.specs.Step.{bytes_of, no_part, fit_part}
use Rattle.tokenizer.specs.declared.token.Token.{Token}
use Rattle.tokenizer.specs.declared.token.Token.TheVariants.{
  Newline,
  Comment,
  Indent,
  Outdent,
  ListItem,
  MapKey,
  Value,
  MultilineHint,
  MultilineValue,
  NoValue,
}
use Rattle.unescape_pieces.specs.Meaning.{Meaning, meaning}
use Rattle.unescape_pieces.specs.declared.start.Style.{Style}
use Rattle.unescape_pieces.specs.declared.start.Style.TheVariants.{AsIs, Entry, Block}
use Rattle.unescape_source.specs.declared.source.Source.{Source}

-- a token's text, where it has one
abbrev pub source_at : Style → Part → Source
source_at r p = record { style = r; text = p; indent = no_part }

unfoldable pub source_of : Token → Source
source_of (Newline l) = source_at AsIs no_part
source_of (Comment l p) = source_at AsIs p
source_of (Indent l) = source_at AsIs no_part
source_of (Outdent l o) = source_at AsIs no_part
source_of (ListItem l) = source_at AsIs no_part
source_of (MapKey l p) = source_at Entry p
source_of (Value l p) = source_at Entry p
source_of (MultilineHint l p) = source_at AsIs p
source_of (MultilineValue l i p) = record { style = Block; text = p; indent = i }
source_of (NoValue l) = source_at AsIs no_part

-- what the text of a source means
abbrev pub meaning_in : List ℕ → Source → Meaning
meaning_in d w = meaning w.style (bytes_of d w.text) (bytes_of d w.indent)

-- a part that does not start after its end, nor end past the document, and is UTF-8; else 13
unfoldable pub sound : List ℕ → Part → Bool
sound d p = fit_part (length d) p && utf8 (bytes_of d p)

-- a token's source, where the document is within its limit and both parts are sound
unfoldable pub source_in : List ℕ → Token → Result Source SyntaxError
source_in d t =
    let w = source_of t in
    cond (ltb max_document (length d)) (Err (error TooLong 0))
    (cond (sound d w.text && sound d w.indent) (Ok w) (Err (error UnfitToken (line_of t))))

-- its parts lie within a document of n bytes, which is within the limit
abbrev pub Lies : ℕ → Source → Type 0
Lies n w = (w.text.start ≤ w.text.end) × (w.text.end ≤ n) × (w.indent.start ≤ w.indent.end) × (w.indent.end ≤ n) × (n ≤ max_document)
