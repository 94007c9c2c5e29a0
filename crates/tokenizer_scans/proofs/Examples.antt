-- Document 01's words on keys, values, quotes, indentations and multiline values, computed from the definitions: an edit of rule and
-- code alike is refused here.
use Prim.Native.Nat.{ℕ}
use Prim.Native.Char.{code as byte}
use mathlib.Core.Path.{◌≡◌, refl}
use mathlib.Core.List.{List, [], ◌∷◌}
use mathlib.Core.Bool.{true, false}
use Rattle.std.specs.Prelude.{Some, None}
use Rattle.text.specs.Ascii.{ascii}
use Rattle.text.specs.Bytes.{is_blank, is_break, starts_with}
use Rattle.text.specs.Trimming.{dropped, kept_end, trimmed}
use Rattle.utf8.specs.Utf8.{within, lead_of, owes, utf8}
use Rattle.text.specs.declared.trimming.Dropped.TheVariants.{Blanks}
use Rattle.tokenizer_scans.specs.Scans.{
  relation_of,
  stops,
  plain_end,
  closing,
  quotes_end,
  text_end,
  checked_of,
  begins_hint,
  eq_size,
  piece,
  is_void,
  belongs_to,
  multiline_end,
  breaks_after,
  ends_in_break,
  line_count,
  lines_of,
}
use Rattle.tokenizer_scans.specs.declared.readers.Relation.TheVariants.{Deeper, Other}

-- what computing a text's end unfolds
rules : ℕ → List ℕ → ℕ
unfolding is_break stops plain_end closing quotes_end text_end
rules also s = text_end also s

-- a tab is no space, and a longer indentation that begins with the innermost is deeper
tab-for-space : relation_of (ascii " ") (ascii "\t") ≡ Other
unfolding relation_of
tab-for-space = refl

longer : relation_of (ascii " ") (ascii "  ") ≡ Deeper
unfolding relation_of
longer = refl

-- `"a=b" = c`: a key ends at `=` outside quotes
quoted-key : text_end (byte "=") (ascii "\"a=b\" = c") ≡ 6
unfolding rules
quoted-key = refl

-- `a ; b`: a key ends at `;`
commented-key : text_end (byte "=") (ascii "a ; b") ≡ 2
unfolding rules
commented-key = refl

-- `a ; b`, `a` CR: a value ends at `;` and before a break
plain_value : text_end (byte ";") (ascii "a ; b") ≡ 2
unfolding rules
plain_value = refl

broken-value : text_end (byte ";") (ascii "a\rb") ≡ 1
unfolding rules
broken-value = refl

-- `"a\";" ; b`: an escaped quote does not close
escaped-quote : text_end (byte ";") (ascii "\"a\\\";\" ; b") ≡ 7
unfolding rules
escaped-quote = refl

-- `"a\\" ; b`: an escaped backslash escapes nothing
escaped-backslash : text_end (byte ";") (ascii "\"a\\\\\" ; b") ≡ 6
unfolding rules
escaped-backslash = refl

-- three quotes begin a hint, two do not; `=` is passed
three-quotes : begins_hint (ascii "\"\"\"") ≡ true
unfolding begins_hint starts_with
three-quotes = refl

two-quotes : begins_hint (ascii "\"\"") ≡ false
unfolding begins_hint starts_with
two-quotes = refl

equals : eq_size (ascii "= a") ≡ 1
unfolding eq_size
equals = refl

-- a text is trimmed of blanks, if it is UTF-8
trimmed-text : checked_of Blanks (ascii " a\t") ≡ Some (record { start = 1; end = 2 })
unfolding checked_of trimmed dropped is_blank kept_end within lead_of owes utf8
trimmed-text = refl

bad-text : checked_of Blanks (0xFF ∷ []) ≡ None
unfolding checked_of within lead_of owes utf8
bad-text = refl

-- ` a` CR LF, a blank line, ` b`, then `c` at the indentation of none: eight bytes, and lines for ` a`, the blank one and ` b`
three-lines : lines_of (ascii " ") (ascii " a\r\n\n b\nc") ≡ record { len = 8; count = 3 }
unfolding is_blank is_break starts_with dropped piece is_void belongs_to multiline_end breaks_after ends_in_break line_count lines_of
three-lines = refl

-- `  x`: a last line without a break counts
last_line : lines_of (ascii "  ") (ascii "  x") ≡ record { len = 3; count = 1 }
unfolding is_blank is_break starts_with dropped piece is_void belongs_to multiline_end breaks_after ends_in_break line_count lines_of
last_line = refl
