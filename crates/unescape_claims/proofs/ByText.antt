-- A token's kind says how it is read, and a token is unescaped as its text's bytes are: that is one meaning, delivered at
-- the text's start and at 0.
use Prim.Native.Nat.{ℕ}
use mathlib.Core.Path.{◌≡◌, refl, sym}
use mathlib.Core.List.{List}
use native.Mathlib.Nat.{zero-add}
use native.Mathlib.Omega.{arith}
use lib.Dec.{leb}
use lib.ListN.{length}
use borrow.Author.Tests.{le-ltb}
use mathlib.Core.Bool.{false}
use lib.Dec.{ltb}
use Rattle.std.specs.Prelude.{Ok}
use Rattle.text.proofs.Cases.{by_bool}
use Rattle.tokenizer.specs.Token.{token_values, line_of}
use Rattle.tokenizer.specs.Step.{bytes_of}
use Rattle.tokenizer.specs.declared.token.Token.TheVariants.{
  Newline,
  Comment,
  Indent,
  Outdent,
  ListItem,
  MapKey,
  Value,
  MultilineHint,
  MultilineValue,
  NoValue,
}
use Rattle.unescape_pieces.specs.Meaning.{Meaning, part, bytes, refused, meaning}
use Rattle.unescape_pieces.specs.declared.fault.Fault.TheVariants.{InvalidEscape, EscapeAtEnd, ExtraCharacters, UnclosedQuotes}
use Rattle.unescape_source.specs.Source.{source_of, source_in}
use Rattle.unescape.specs.Unescape.{delivered, unescape_of}
use Rattle.unescape.specs.Texts.{style_of, unescape_text_of}
use Rattle.unescape_source.proofs.Sound.{sound-length, both-sound}
use Rattle.unescape_claims.specs.ByText.{unescaped_from, KindsRead, TokensByText}

pub kinds-read : KindsRead
unfolding style_of token_values source_of
kinds-read (Newline l) = refl
kinds-read (Comment l p) = refl
kinds-read (Indent l) = refl
kinds-read (Outdent l o) = refl
kinds-read (ListItem l) = refl
kinds-read (MapKey l p) = refl
kinds-read (Value l p) = refl
kinds-read (MultilineHint l p) = refl
kinds-read (MultilineValue l i p) = refl
kinds-read (NoValue l) = refl

-- a meaning delivered at n is the same delivered at 0, with n added
from_start : (m : Meaning) (n l : ℕ) (o : List ℕ) → delivered m n l o ≡ unescaped_from n (delivered m 0 l o)
unfolding delivered
from_start (part a e) n l o = rw (zero-add a, zero-add e)
from_start (bytes w) n l o = by_bool (leb (length w) (length o)) (λ e. rw e) (λ e. rw e)
from_start (refused (InvalidEscape p)) n l o = rw (zero-add p.start, zero-add p.end)
from_start (refused EscapeAtEnd) n l o = refl
from_start (refused ExtraCharacters) n l o = refl
from_start (refused UnclosedQuotes) n l o = refl

pub tokens-by-text : TokensByText
unfolding unescape_of unescape_text_of
tokens-by-text d t o h e f =
    let w = source_of t in
    let s = bytes_of d w.text in
    let i = bytes_of d w.indent in
    let q : source_in d t ≡ Ok w = sym (both-sound d t w refl h refl refl (rw (e, f))) in
    let j : ltb 16777216 (length s) ≡ false = le-ltb 16777216 (length s) (omega (arith, sound-length d w.text e)) in
    let k : ltb 16777216 (length i) ≡ false = le-ltb 16777216 (length i) (omega (arith, sound-length d w.indent f)) in
    rw (q, j, k) (from_start (meaning w.style s i) w.text.start (line_of t) o)
