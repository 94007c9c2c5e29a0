-- Law: document 01, 'Numbers by the place where they are checked': the two limits, and the numbers of the refusals.
use Rattle.std.specs.Prelude.{ℕ}
use Rattle.text.specs.declared.refusals.Refusal.{Refusal}
use Rattle.text.specs.declared.refusals.SyntaxError.{SyntaxError}
use Rattle.text.specs.declared.refusals.Refusal.TheVariants as refusal

-- the longest document, in bytes
abbrev pub max_document : ℕ
max_document = 16_777_216

-- the most sections that are open at once, the top level apart
abbrev pub max_open : ℕ
max_open = 64

-- tokenizer
abbrev pub invalid_utf8 : ℕ
invalid_utf8 = 1

abbrev pub characters_after_quotes : ℕ
characters_after_quotes = 2

abbrev pub too_many_open : ℕ
too_many_open = 3

-- parser
abbrev pub missing_multiline : ℕ
missing_multiline = 4

abbrev pub unexpected_key : ℕ
unexpected_key = 5

abbrev pub unexpected_item : ℕ
unexpected_item = 6

abbrev pub unexpected_indent : ℕ
unexpected_indent = 7

-- unescape
abbrev pub invalid_escape : ℕ
invalid_escape = 8

abbrev pub escape_at_end : ℕ
escape_at_end = 9

abbrev pub extra_characters : ℕ
extra_characters = 10

abbrev pub unclosed_quotes : ℕ
unclosed_quotes = 11

-- every entry
abbrev pub too_long : ℕ
too_long = 12

-- unescape entry
abbrev pub unfit_token : ℕ
unfit_token = 13

-- unescape output
abbrev pub short_buffer : ℕ
short_buffer = 14

-- step entry
abbrev pub unfit_state : ℕ
unfit_state = 15

-- the number of a refusal
abbrev pub number_of : Refusal → ℕ
number_of refusal.InvalidUtf8 = invalid_utf8
number_of refusal.CharactersAfterQuotes = characters_after_quotes
number_of refusal.TooManyOpen = too_many_open
number_of refusal.MissingMultiline = missing_multiline
number_of refusal.UnexpectedKey = unexpected_key
number_of refusal.UnexpectedItem = unexpected_item
number_of refusal.UnexpectedIndent = unexpected_indent
number_of refusal.InvalidEscape = invalid_escape
number_of refusal.EscapeAtEnd = escape_at_end
number_of refusal.ExtraCharacters = extra_characters
number_of refusal.UnclosedQuotes = unclosed_quotes
number_of refusal.TooLong = too_long
number_of refusal.UnfitToken = unfit_token
number_of refusal.ShortBuffer = short_buffer
number_of refusal.UnfitState = unfit_state

-- a refusal told of line l
abbrev pub error : Refusal → ℕ → SyntaxError
error r l = record { refusal = r; line = l }
