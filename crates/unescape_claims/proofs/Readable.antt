-- A token whose text and indentation are texts of the document may be read.
use Prim.Native.Nat.{ℕ, ◌≤◌}
use mathlib.Core.Path.{◌≡◌, refl}
use mathlib.Core.List.{List}
use mathlib.Core.Bool.{true}
use native.Mathlib.Omega.{arith}
use lib.ListN.{length}
use borrow.Author.Tests.{le-ltb, le-leb}
use Rattle.utf8.specs.Utf8.{utf8, owes}
use Rattle.text.specs.declared.bytes.Part.{Part}
use Rattle.tokenizer.specs.Step.{no_part}
use Rattle.tokenizer.specs.declared.token.Token.{Token}
use Rattle.tokenizer.specs.declared.token.Token.TheVariants.{
  Newline,
  Comment,
  Indent,
  Outdent,
  ListItem,
  MapKey,
  Value,
  MultilineHint,
  MultilineValue,
  NoValue,
}
use Rattle.tokenizer_claims.specs.Claims.{Text, PartsFit}
use Rattle.unescape_source.specs.Source.{source_of, sound, source_in}
use Rattle.std.specs.Prelude.{Ok}
use Rattle.unescape_claims.specs.Readable.{TokensRead}

text-sound : (d : List ℕ) (q : Part) → Text d q → sound d q ≡ true
unfolding sound
text-sound d q t = rw (le-leb q.start q.end t.within.starts, le-leb q.end (length d) t.within.ends, t.valid)

-- the empty part is a text, so every token of a reading has a text and an indentation
pub none-text : (d : List ℕ) → Text d no_part
unfolding utf8 owes
none-text d = record { within = record { starts = omega arith; ends = omega arith }; valid = refl }

pub texts-fit : (N : Type 0) (d : List ℕ) (t : Token) → PartsFit N d t → Text d (source_of t).text × Text d (source_of t).indent
unfolding source_of
texts-fit N d (Newline m) f = (none-text d, none-text d)
texts-fit N d (Comment m q) f = (f, none-text d)
texts-fit N d (Indent m) f = (none-text d, none-text d)
texts-fit N d (Outdent m o) f = (none-text d, none-text d)
texts-fit N d (ListItem m) f = (none-text d, none-text d)
texts-fit N d (MapKey m q) f = (f, none-text d)
texts-fit N d (Value m q) f = (f, none-text d)
texts-fit N d (MultilineHint m q) f = (f, none-text d)
texts-fit N d (MultilineValue m i q) f = (f.1, f.0)
texts-fit N d (NoValue m) f = (none-text d, none-text d)

pub texts-read : (d : List ℕ) (t : Token) → length d ≤ 16777216 → Text d (source_of t).text × Text d (source_of t).indent
    → source_in d t ≡ Ok (source_of t)
unfolding source_in
texts-read d t l f =
    rw (le-ltb 16777216 (length d) l, text-sound d (source_of t).text f.0, text-sound d (source_of t).indent f.1)

pub tokens-read : TokensRead
tokens-read d t l f = texts-read d t l (texts-fit (Unit {0}) d t f)
