-- Codes in braces and simple escapes, computed from the rules: an edit of rule and code alike is refused here. Document 01's rows
-- on whole texts are in unescape_pieces/proofs/Examples.
use Prim.Native.Nat.{ℕ}
use Prim.Native.Char.{code as byte}
use mathlib.Core.Path.{◌≡◌, refl}
use mathlib.Core.List.{List, []}
use Rattle.std.specs.Prelude.{Option, Some, None}
use Rattle.text.specs.Ascii.{ascii}
use Rattle.utf8.specs.Utf8.{within}
use Rattle.unescape_codes.specs.Codes.{digit_of, digits_from, code_of, simple_of}

-- the number that the bytes in braces name
unfoldable names : List ℕ → Option ℕ
unfolding within digit_of digits_from code_of
names h = code_of h

-- `10ffFF`: digits of either case
last_scalar : names (ascii "10ffFF") ≡ Some 0x10FFFF
unfolding names
last_scalar = refl

-- `00000041` is A; with one zero more it is nothing
eight-digits : names (ascii "00000041") ≡ Some (byte "A")
unfolding names
eight-digits = refl

nine_digits : names (ascii "000000041") ≡ None
unfolding names
nine_digits = refl

-- one digit at least
no_digit : names [] ≡ None
unfolding names
no_digit = refl

-- no sign stands before the digits, and nothing but digits among them
plus : names (ascii "+41") ≡ None
unfolding names
plus = refl

minus : names (ascii "-41") ≡ None
unfolding names
minus = refl

no-hexadecimal : names (ascii "4g") ≡ None
unfolding names
no-hexadecimal = refl

-- backslash n is LF, backslash r CR, backslash t a tab
line-feed : simple_of (byte "n") ≡ Some 10
unfolding simple_of
line-feed = refl

carriage-return : simple_of (byte "r") ≡ Some 13
unfolding simple_of
carriage-return = refl

tab : simple_of (byte "t") ≡ Some 9
unfolding simple_of
tab = refl
