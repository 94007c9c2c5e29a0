-- The rows of document 01's 'Layouts on the test strip' on escapes and on the multiline value, computed from the rules. Those
-- marked P there are these theorems; the others stand with them where they are as short.
use Prim.Native.Nat.{ℕ}
use mathlib.Core.Path.{◌≡◌, refl}
use mathlib.Core.List.{List, [], ◌∷◌}
use Rattle.text.specs.Ascii.{ascii}
use Rattle.text.specs.Bytes.{is_break, starts_with}
use Rattle.utf8.specs.Scalar.{is_scalar, encoding}
use Rattle.utf8.specs.Utf8.{within, lead_of, followed, char_len}
use Rattle.unescape_codes.specs.Codes.{digit_of, digits_from, code_of, simple_of}
use Rattle.unescape_pieces.specs.declared.start.Style.TheVariants.{AsIs, Entry}
use Rattle.unescape_pieces.specs.declared.fault.Fault.TheVariants.{EscapeAtEnd, ExtraCharacters, UnclosedQuotes}
use Rattle.unescape_pieces.specs.Meaning.{
  Meaning,
  part,
  bytes,
  code,
  refused,
  quoted,
  simply_quoted,
  entry_meaning,
  is_empty,
  lines_in,
  later_lines,
  joined_lines,
  block_meaning,
  meaning,
}

-- what computing a meaning unfolds
unfoldable pub rules : List ℕ → Meaning
unfolding is_break starts_with is_scalar encoding within lead_of followed char_len digit_of digits_from code_of simple_of quoted simply_quoted entry_meaning is_empty lines_in later_lines joined_lines block_meaning
rules s = entry_meaning s

-- `"\{0010FFFF}"` is the last scalar value
pub last_scalar : entry_meaning (ascii "\"\\{0010FFFF}\"") ≡ bytes (0xF4 ∷ 0x8F ∷ 0xBF ∷ 0xBF ∷ [])
unfolding rules
last_scalar = refl

-- `"\{00110000}"` is 8, and the whole code is shown
pub past_last : entry_meaning (ascii "\"\\{00110000}\"") ≡ code 1 12
unfolding rules
past_last = refl

-- `"\{000000041}"`: nine digits
pub nine_digits : entry_meaning (ascii "\"\\{000000041}\"") ≡ code 1 13
unfolding rules
nine_digits = refl

-- `"\{D800}"`: a surrogate
pub surrogate : entry_meaning (ascii "\"\\{D800}\"") ≡ code 1 8
unfolding rules
surrogate = refl

-- `"\{}"`: no digit
pub no_digit : entry_meaning (ascii "\"\\{}\"") ≡ code 1 4
unfolding rules
no_digit = refl

-- `"\{+41}"` is 8, and the whole code is shown: no sign stands before the digits
pub plus : entry_meaning (ascii "\"\\{+41}\"") ≡ code 1 7
unfolding rules
plus = refl

-- `"`: unclosed quotes
pub unclosed : entry_meaning (ascii "\"") ≡ refused UnclosedQuotes
unfolding rules
unclosed = refl

-- `"a"b`: characters after the quotes
pub extra : entry_meaning (ascii "\"a\"b") ≡ refused ExtraCharacters
unfolding rules
extra = refl

-- `"a\`: an escape at the end
pub escape-at-end : entry_meaning (ascii "\"a\\") ≡ refused EscapeAtEnd
unfolding rules
escape-at-end = refl

-- `""` is the empty part between the quotes
pub empty-quotes : entry_meaning (ascii "\"\"") ≡ part 1 1
unfolding rules
empty-quotes = refl

-- two spaces of indentation, `x` CR LF `   y` LF ` ` LF `  z`: `x` LF ` y` LF LF `z`
pub four_lines : block_meaning (ascii "  ") (ascii "x\r\n   y\n \n  z")
    ≡ bytes (ascii "x\n y\n\nz")
unfolding rules
four_lines = refl

-- `"\"\\\n\r\t"`: each of the five simple escapes
pub simple-escapes : entry_meaning (ascii "\"\\\"\\\\\\n\\r\\t\"") ≡ bytes (ascii "\"\\\n\r\t")
unfolding rules
simple-escapes = refl

-- `"\n"` as it stands, as a comment is read, and as a key or a value is
pub as-it-is : meaning AsIs (ascii "\"\\n\"") [] ≡ part 0 4
unfolding rules meaning
as-it-is = refl

pub unescaped : meaning Entry (ascii "\"\\n\"") [] ≡ bytes (ascii "\n")
unfolding rules meaning
unescaped = refl
