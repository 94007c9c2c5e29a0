-- The rows of document 01's 'Layouts on the test strip' on unescaping, over the whole rule: the answer with its number, line and part,
-- and the buffer after it, whose bytes were dots.
use Prim.Native.Nat.{ℕ}
use mathlib.Core.Path.{◌≡◌, refl}
use mathlib.Core.List.{List, [], ◌∷◌}
use lib.ListN.{length}
use Rattle.text.specs.Bytes.{part}
use Rattle.text.specs.Ascii.{ascii}
use Rattle.utf8.specs.Utf8.{owes, utf8}
use Rattle.tokenizer.specs.Token.{line_of}
use Rattle.tokenizer.specs.declared.token.Token.{Token}
use Rattle.tokenizer.specs.declared.token.Token.TheVariants.{Value, MultilineValue}
use Rattle.unescape_pieces.specs.Meaning.{meaning}
use Rattle.unescape_source.specs.Source.{source_of, sound, source_in}
use Rattle.unescape_pieces.specs.declared.start.Style.{Style}
use Rattle.unescape_pieces.specs.declared.start.Style.TheVariants.{AsIs, Entry, Block}
use Rattle.unescape_pieces.proofs.Examples.{rules}
use Rattle.unescape.specs.Unescape.{Unescaped, refused_at, delivered, unescape_of}
use Rattle.unescape.specs.Texts.{style_of, unescape_text_of}
use Rattle.unescape.specs.declared.answer.Answer.TheVariants.{Plain, Written}
use Rattle.std.specs.Prelude.{Ok}
use Rattle.text.specs.declared.refusals.Refusal.TheVariants.{InvalidEscape, ExtraCharacters, UnclosedQuotes, UnfitToken, ShortBuffer}

-- a value on line 1 that is a whole document, with six bytes of room
abbrev pub value : List ℕ → Unescaped
value s = unescape_of s (Value 1 (part 0 (length s))) (ascii "......")

-- what computing an unescaping unfolds
unescaped : List ℕ → Token → List ℕ → Unescaped
unfolding rules owes utf8 line_of meaning source_of sound source_in delivered unescape_of unescape_text_of
unescaped d t o = unescape_of d t o

-- `"\{0010FFFF}"` is written
pub last_scalar : value (ascii "\"\\{0010FFFF}\"") ≡ record { answer = Ok (Written 4); buffer = 0xF4 ∷ 0x8F ∷ 0xBF ∷ 0xBF ∷ ascii ".." }
unfolding unescaped
last_scalar = refl

-- `"\{00110000}"` and `"\{000000041}"` are 8, and show the whole code
pub past_last : value (ascii "\"\\{00110000}\"") ≡ record { answer = refused_at InvalidEscape 1 (part 1 12); buffer = ascii "......" }
unfolding unescaped
past_last = refl

pub nine_digits : value (ascii "\"\\{000000041}\"") ≡ record { answer = refused_at InvalidEscape 1 (part 1 13); buffer = ascii "......" }
unfolding unescaped
nine_digits = refl

-- `"` is 11, `"a"b` 10
pub unclosed : value (ascii "\"") ≡ record { answer = refused_at UnclosedQuotes 1 (part 0 0); buffer = ascii "......" }
unfolding unescaped
unclosed = refl

pub extra : value (ascii "\"a\"b") ≡ record { answer = refused_at ExtraCharacters 1 (part 0 0); buffer = ascii "......" }
unfolding unescaped
extra = refl

-- an indentation of two spaces, then `x` CR LF `   y` LF ` ` LF `  z`
pub four_lines : unescape_of (ascii "  x\r\n   y\n \n  z") (MultilineValue 1 (part 0 2) (part 2 15)) (ascii "........")
    ≡ record { answer = Ok (Written 7); buffer = ascii "x\n y\n\nz." }
unfolding unescaped
four_lines = refl

-- a buffer that the text just fits is filled; one a byte shorter is 14 on the token's line, and stays
just-fits : unescape_of (ascii "\"\\n\\t\"") (Value 3 (part 0 6)) (ascii "..") ≡ record { answer = Ok (Written 2); buffer = ascii "\n\t" }
unfolding unescaped
just-fits = refl

too_short : unescape_of (ascii "\"\\n\\t\"") (Value 3 (part 0 6)) (ascii ".") ≡ record { answer = refused_at ShortBuffer 3 (part 0 0); buffer = ascii "." }
unfolding unescaped
too_short = refl

-- a plain part stands where it stands, and needs no room
plain-part : unescape_of (ascii "a = b") (Value 1 (part 4 5)) [] ≡ record { answer = Ok (Plain (part 4 5)); buffer = [] }
unfolding unescaped
plain-part = refl

-- a part that ends past the document is 13
unfit : unescape_of (ascii "a") (Value 2 (part 0 2)) (ascii ".") ≡ record { answer = refused_at UnfitToken 2 (part 0 0); buffer = ascii "." }
unfolding unescaped
unfit = refl

-- The port's own: a given text with an indentation of two spaces, on line 5 of no document
abbrev given : Style → List ℕ → List ℕ → Unescaped
given r s o = unescape_text_of r s (ascii "  ") 5 o

-- `"ab"` is plain, and its place is counted from the text's start
given-plain : given Entry (ascii "\"ab\"") [] ≡ record { answer = Ok (Plain (part 1 3)); buffer = [] }
unfolding unescaped
given-plain = refl

-- `"a\q"` is 8 on the given line, and shows `\q`
given-code : given Entry (ascii "\"a\\q\"") (ascii "..") ≡ record { answer = refused_at InvalidEscape 5 (part 2 4); buffer = ascii ".." }
unfolding unescaped
given-code = refl

-- `x` LF `  y` loses the indentation
given-lines : given Block (ascii "x\n  y") (ascii "....") ≡ record { answer = Ok (Written 3); buffer = ascii "x\ny." }
unfolding unescaped
given-lines = refl

-- a key, 6, and a value, 7, are read with their escapes, a multiline value, 9, by its lines, and its hint, 8, as it stands
kinds : (style_of 6 ≡ Entry) × (style_of 7 ≡ Entry) × (style_of 8 ≡ AsIs) × (style_of 9 ≡ Block)
unfolding style_of
kinds = (refl, refl, refl, refl)
