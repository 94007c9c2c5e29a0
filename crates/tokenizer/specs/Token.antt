-- Law: document 01, 'Look-up and listing': tokens in its numbers, kinds 1 to 10, each with its line and its parts; a
-- refusal is 256 and its number, End 0. And a token's line and name, as 'What stays and what is written anew' has them.
use Rattle.std.specs.Prelude.{ℕ, ◌+◌, List, ◌++◌, length, take, replicate, min, Option, Some, None, Result, Ok, Err}
use Rattle.text.specs.Ascii.{ascii}
use Rattle.text.specs.declared.bytes.Part.{Part}
use Rattle.tokenizer.specs.declared.token.Token.{Token}
use Rattle.tokenizer.specs.declared.token.Token.TheVariants.{
  Newline,
  Comment,
  Indent,
  Outdent,
  ListItem,
  MapKey,
  Value,
  MultilineHint,
  MultilineValue,
  NoValue,
}
use Rattle.tokenizer.specs.declared.token.Name.{Name}
use Rattle.text.specs.Numbers.{number_of}
use Rattle.text.specs.declared.refusals.SyntaxError.{SyntaxError}

-- what a step answers: End, a token, or a refusal with its line
abbrev pub Answer : Type 0
Answer = Option (Result Token SyntaxError)

-- number, line, start and end of the text, start and end of the indentation; 0 where there is none. The last is the
-- parser's: the line of the key or item whose section an Outdent closes, and 0 else.
pub record Values : Type 0 where
  pub number : ℕ
  pub line : ℕ
  pub start : ℕ
  pub end : ℕ
  pub from : ℕ
  pub to : ℕ
  pub opened : ℕ

abbrev pub bare : ℕ → ℕ → Values
bare n l = record { number = n; line = l; start = 0; end = 0; from = 0; to = 0; opened = 0 }

abbrev pub with_text : ℕ → ℕ → Part → Values
with_text n l p = record { number = n; line = l; start = p.start; end = p.end; from = 0; to = 0; opened = 0 }

-- a token's kind and values
unfoldable pub token_values : Token → Values
token_values (Newline l) = bare 1 l
token_values (Comment l p) = with_text 2 l p
token_values (Indent l) = bare 3 l
token_values (Outdent l o) = record { number = 4; line = l; start = 0; end = 0; from = 0; to = 0; opened = o }
token_values (ListItem l) = bare 5 l
token_values (MapKey l p) = with_text 6 l p
token_values (Value l p) = with_text 7 l p
token_values (MultilineHint l p) = with_text 8 l p
token_values (MultilineValue l i p) = record { number = 9; line = l; start = p.start; end = p.end; from = i.start; to = i.end; opened = 0 }
token_values (NoValue l) = bare 10 l

-- the number by which an answer says the refusal n: above the kinds
abbrev pub refusal_number : ℕ → ℕ
refusal_number n = 256 + n

-- an answer's: 0 for End, 256 and the number for a refusal
unfoldable pub values_of : Answer → Values
values_of None = bare 0 0
values_of (Some (Ok t)) = token_values t
values_of (Some (Err e)) = bare (refusal_number (number_of e.refusal)) e.line

-- the line on which a token starts
unfoldable pub line_of : Token → ℕ
line_of (Newline l) = l
line_of (Comment l p) = l
line_of (Indent l) = l
line_of (Outdent l o) = l
line_of (ListItem l) = l
line_of (MapKey l p) = l
line_of (Value l p) = l
line_of (MultilineHint l p) = l
line_of (MultilineValue l i p) = l
line_of (NoValue l) = l

-- what a token is called
unfoldable pub name_of : Token → List ℕ
name_of (Newline l) = ascii "newline"
name_of (Comment l p) = ascii "comment"
name_of (Indent l) = ascii "indent"
name_of (Outdent l o) = ascii "outdent"
name_of (ListItem l) = ascii "list item"
name_of (MapKey l p) = ascii "map key"
name_of (Value l p) = ascii "value"
name_of (MultilineHint l p) = ascii "multiline hint"
name_of (MultilineValue l i p) = ascii "multiline value"
name_of (NoValue l) = ascii "no value"

-- the first 16 bytes with zeros after them, and how many they are
unfoldable pub padded : List ℕ → Name
padded s = record { bytes = take 16 (s ++ replicate 16 0); len = min 16 (length s) }
