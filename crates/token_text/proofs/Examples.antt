-- Names computed from the rule: an edit of rule and code alike is refused here.
use Prim.Native.Nat.{ℕ}
use mathlib.Core.Path.{◌≡◌, refl}
use mathlib.Core.List.{List, []}
use mathlib.Core.Bool.{Bool, true, false}
use Rattle.text.specs.Ascii.{ascii}
use Rattle.text.specs.Bytes.{is_same}
use Rattle.text.specs.declared.refusals.Refusal.TheVariants.{InvalidEscape, UnfitToken}
use Rattle.utf8.specs.Utf8.{owes, utf8}
use Rattle.tokenizer.specs.Token.{line_of}
use Rattle.tokenizer.specs.Step.{no_part}
use Rattle.tokenizer.specs.declared.token.Token.{Token}
use Rattle.tokenizer.specs.declared.token.Token.TheVariants.{MapKey, Value, MultilineValue}
use Rattle.unescape_pieces.specs.Meaning.{meaning}
use Rattle.unescape_pieces.proofs.Examples.{rules as meaning_rules}
use Rattle.unescape_source.specs.Source.{source_of, sound, source_in}
use Rattle.token_text.specs.Text.{gives, fails, text_in, is_text}

-- the key of so many bytes that a document begins with
abbrev key : ℕ → Token
key n = MapKey 1 (record { start = 0; end = n })

-- what computing a text unfolds
unfoldable pub rules : List ℕ → Token → List ℕ → Bool
unfolding meaning_rules owes utf8 line_of meaning source_of sound source_in text_in is_same
rules d t w = is_text (text_in d t) w

-- `"a"=1` has the key `a`, not one with quotes
pub quoted-name : is_text (text_in (ascii "\"a\"=1") (key 3)) (ascii "a") ≡ true
unfolding rules
quoted-name = refl

pub its-quotes : is_text (text_in (ascii "\"a\"=1") (key 3)) (ascii "\"a\"") ≡ false
unfolding rules
its-quotes = refl

-- `"\{61}"=1` has the key `a`
pub code-name : is_text (text_in (ascii "\"\\{61}\"=1") (key 7)) (ascii "a") ≡ true
unfolding rules
code-name = refl

-- `""=1` has the empty key; `"\q"=1` has none, not even that
pub empty_name : is_text (text_in (ascii "\"\"=1") (key 2)) [] ≡ true
unfolding rules
empty_name = refl

pub refused-name : is_text (text_in (ascii "\"\\q\"=1") (key 4)) [] ≡ false
unfolding rules
refused-name = refl

-- it is 8, and shows `\q`
pub refused-text : text_in (ascii "\"\\q\"=1") (key 4) ≡ fails InvalidEscape (record { start = 1; end = 3 })
unfolding rules
refused-text = refl

-- of the value of `x="\q"`, which starts at 2, it shows 3 to 5
pub shown-part : text_in (ascii "x=\"\\q\"") (Value 1 (record { start = 2; end = 6 })) ≡ fails InvalidEscape (record { start = 3; end = 5 })
unfolding rules
shown-part = refl

-- a key that lies past the document's end is 13
pub unfit-text : text_in (ascii "a=1") (key 4) ≡ fails UnfitToken no_part
unfolding rules
unfit-text = refl

-- the lines of a multiline value lose their indentation, here one space
pub lines-text : text_in (ascii " a\n b") (MultilineValue 1 (record { start = 0; end = 1 }) (record { start = 1; end = 5 })) ≡ gives (ascii "a\nb")
unfolding rules
lines-text = refl
