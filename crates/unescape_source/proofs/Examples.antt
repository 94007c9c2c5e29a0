-- Which text is read how, computed from the rule: an edit of rule and code alike is refused here.
use mathlib.Core.Path.{◌≡◌, refl}
use mathlib.Core.List.{◌∷◌, []}
use Rattle.text.specs.Ascii.{ascii}
use Rattle.text.specs.Numbers.{error}
use Rattle.std.specs.Prelude.{Err}
use Rattle.text.specs.declared.refusals.Refusal.TheVariants.{UnfitToken}
use Rattle.text.specs.declared.bytes.Part.{Part}
use Rattle.utf8.specs.Utf8.{within, lead_of, owes, utf8}
use Rattle.tokenizer.specs.Token.{line_of}
use Rattle.tokenizer.specs.declared.token.Token.TheVariants.{Comment, Value}
use Rattle.unescape_pieces.specs.declared.start.Style.TheVariants.{AsIs, Entry}
use Rattle.unescape_source.specs.Source.{source_of, sound, source_in}

abbrev fourth : Part
fourth = record { start = 4; end = 8 }

-- a comment is read as it stands
comment-as-it-is : (source_of (Comment 1 fourth)).style ≡ AsIs
unfolding source_of
comment-as-it-is = refl

-- a value is unescaped
value-unescaped : (source_of (Value 1 fourth)).style ≡ Entry
unfolding source_of
value-unescaped = refl

-- a value past the document's end, and one that is not UTF-8, are 13 on the token's line
past_the_end : source_in (ascii "abcdefg") (Value 3 fourth) ≡ Err (error UnfitToken 3)
unfolding source_in source_of sound line_of
past_the_end = refl

not-utf8 : source_in (0xFF ∷ []) (Value 3 (record { start = 0; end = 1 })) ≡ Err (error UnfitToken 3)
unfolding source_in source_of sound line_of within lead_of owes utf8
not-utf8 = refl
