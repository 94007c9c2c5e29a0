-- Document 01's words on bytes, computed from the definitions: an edit of rule and code alike is refused here.
use Prim.Native.Nat.{◌*◌}
use Prim.Native.Char.{code as byte}
use mathlib.Core.Path.{◌≡◌, refl}
use mathlib.Core.List.{[], ◌∷◌, map}
use mathlib.Core.Bool.{true, false}
use Rattle.text.specs.Ascii.{ascii}
use Rattle.text.specs.Numbers.{max_document, max_open, number_of}
use Rattle.text.specs.Bytes.{is_blank, is_break, break_size, line_end, starts_with, part}
use Rattle.text.specs.Trimming.{dropped, kept_end, trimmed}
use Rattle.text.specs.declared.refusals.Refusal.TheVariants as refusal
use Rattle.text.specs.declared.trimming.Dropped.TheVariants.{Blanks, BlanksAndBreaks}

-- 16 MiB, and 64 sections
limit : max_document ≡ 16 * 1024 * 1024
limit = refl

sections : max_open ≡ 64
sections = refl

-- the numbers, by the places where they are checked: a line each for the tokenizer, the parser and unescape's text, and
-- one for every entry, unescape's entry and output, and a step's entry
numbers : map number_of (
    refusal.InvalidUtf8 ∷ refusal.CharactersAfterQuotes ∷ refusal.TooManyOpen
    ∷ refusal.MissingMultiline ∷ refusal.UnexpectedKey ∷ refusal.UnexpectedItem ∷ refusal.UnexpectedIndent
    ∷ refusal.InvalidEscape ∷ refusal.EscapeAtEnd ∷ refusal.ExtraCharacters ∷ refusal.UnclosedQuotes
    ∷ refusal.TooLong ∷ refusal.UnfitToken ∷ refusal.ShortBuffer ∷ refusal.UnfitState ∷ [])
    ≡ 1 ∷ 2 ∷ 3
    ∷ 4 ∷ 5 ∷ 6 ∷ 7
    ∷ 8 ∷ 9 ∷ 10 ∷ 11
    ∷ 12 ∷ 13 ∷ 14 ∷ 15 ∷ []
numbers = refl

-- a tab is a blank
tab : is_blank (byte "\t") ≡ true
unfolding is_blank
tab = refl

-- CR LF is one break of two bytes, CR and LF are breaks alone
cr-lf : break_size (ascii "\r\na") ≡ 2
unfolding break_size is_break
cr-lf = refl

lf-cr : break_size (ascii "\n\ra") ≡ 1
unfolding break_size is_break
lf-cr = refl

-- a line ends before its break
before-break : line_end (ascii "ab\rc") ≡ 2
unfolding is_break
before-break = refl

-- a tab does not begin with a space
tab-space : starts_with (ascii " ") (ascii "\t") ≡ false
unfolding starts_with
tab-space = refl

-- blanks alone are dropped from a line's text, breaks too from a multiline value's; of blanks alone the empty part at the start is left
blanks-dropped : trimmed (dropped Blanks) (ascii " a b\t\n ") ≡ part 1 6
unfolding trimmed dropped is_blank is_break kept_end
blanks-dropped = refl

breaks-dropped : trimmed (dropped BlanksAndBreaks) (ascii " \na b\t\n ") ≡ part 2 5
unfolding trimmed dropped is_blank is_break kept_end
breaks-dropped = refl

all-blank : trimmed (dropped Blanks) (ascii " \t ") ≡ part 0 0
unfolding trimmed dropped is_blank is_break kept_end
all-blank = refl
