-- Claim about the law: document 01, 'Layouts on the test strip': the rows marked P, as one statement, in its order.
-- proofs/Computed gathers it from the crates where each row is computed.
use Rattle.std.specs.Prelude.{◌≡◌, List, [], ◌∷◌, ◌++◌, length, ℕ, Some, Ok, Err}
use Rattle.text.specs.Numbers.{error}
use Rattle.text.specs.declared.refusals.Refusal.TheVariants.{
  CharactersAfterQuotes,
  MissingMultiline,
  UnexpectedIndent,
  InvalidEscape,
  ExtraCharacters,
  UnclosedQuotes,
}
use Rattle.text.specs.Bytes.{part}
use Rattle.text.specs.Ascii.{ascii}
use Rattle.tokenizer.specs.Lists.{tokens}
use Rattle.tokenizer.specs.declared.token.Token.TheVariants as token
use Rattle.parser.specs.Lists.{parse}
use Rattle.listing_text.specs.Listing.{listing_of}
use Rattle.unescape.specs.Unescape.{Unescaped, refused_at, unescape_of}
use Rattle.unescape.specs.declared.answer.Answer.TheVariants.{Written}

-- a value on line 1 that is a whole document, unescaped with six bytes of room, which are dots
abbrev pub value : List ℕ → Unescaped
value s = unescape_of s (token.Value 1 (part 0 (length s))) (ascii "......")

pub record Examples : Type 0 where
  -- empty: no answers
  pub no_tokens : tokens [] ≡ []
  pub no_answers : parse [] ≡ []
  -- the listing's document, `a` LF `  = "x"` LF
  pub listing_answers : parse (ascii "a\n  = \"x\"\n")
      ≡ Some (Ok (token.MapKey 1 (part 0 1)))
      ∷ Some (Ok (token.Newline 1))
      ∷ Some (Ok (token.Indent 2))
      ∷ Some (Ok (token.ListItem 2))
      ∷ Some (Ok (token.Value 2 (part 6 9)))
      ∷ Some (Ok (token.Newline 2))
      ∷ Some (Ok (token.Outdent 3 1))
      ∷ []
  -- and the listing itself, a line of it on each line here
  pub listing_bytes : listing_of (ascii "a\n  = \"x\"\n")
      ≡ ascii "line kind start end\n"
      ++ ascii "1 6 0 1\n"
      ++ ascii "1 1 0 0\n"
      ++ ascii "2 3 0 0\n"
      ++ ascii "2 5 0 0\n"
      ++ ascii "2 7 6 9\n"
      ++ ascii "2 1 0 0\n"
      ++ ascii "3 4 0 0\n"
  -- `a = """"b`: key 0–1, refusal 2, key 4–9
  pub four_quotes : tokens (ascii "a = \"\"\"\"b")
      ≡ Some (Ok (token.MapKey 1 (part 0 1))) ∷ Some (Err (error CharactersAfterQuotes 1)) ∷ Some (Ok (token.MapKey 1 (part 4 9))) ∷ []
  -- `a = """` LF `;x`: key, empty hint at 7, Newline, empty key at 8, Comment 9–10; parser: 4, line 1
  pub hint_tokens : tokens (ascii "a = \"\"\"\n;x")
      ≡ Some (Ok (token.MapKey 1 (part 0 1)))
      ∷ Some (Ok (token.MultilineHint 1 (part 7 7)))
      ∷ Some (Ok (token.Newline 1))
      ∷ Some (Ok (token.MapKey 2 (part 8 8)))
      ∷ Some (Ok (token.Comment 2 (part 9 10)))
      ∷ []
  pub hint_answers : parse (ascii "a = \"\"\"\n;x")
      ≡ Some (Ok (token.MapKey 1 (part 0 1))) ∷ Some (Ok (token.MultilineHint 1 (part 7 7))) ∷ Some (Ok (token.Newline 1)) ∷ Some (Err (error MissingMultiline 1)) ∷ []
  -- one space then `a`: Indent, key, Outdent; parser: 7, line 1
  pub space_tokens : tokens (ascii " a")
      ≡ Some (Ok (token.Indent 1)) ∷ Some (Ok (token.MapKey 1 (part 1 2))) ∷ Some (Ok (token.Outdent 1 0)) ∷ []
  pub space_answers : parse (ascii " a") ≡ Some (Err (error UnexpectedIndent 1)) ∷ []
  -- `k` LF ` a = """` LF `  x`: the Outdent is on line 4
  pub outdent_on_line_four : tokens (ascii "k\n a = \"\"\"\n  x")
      ≡ Some (Ok (token.MapKey 1 (part 0 1)))
      ∷ Some (Ok (token.Newline 1))
      ∷ Some (Ok (token.Indent 2))
      ∷ Some (Ok (token.MapKey 2 (part 3 4)))
      ∷ Some (Ok (token.MultilineHint 2 (part 10 10)))
      ∷ Some (Ok (token.Newline 2))
      ∷ Some (Ok (token.MultilineValue 3 (part 11 13) (part 13 14)))
      ∷ Some (Ok (token.Outdent 4 0))
      ∷ []
  -- `"\{0010FFFF}"` gives a scalar; `"\{00110000}"` and `"\{000000041}"` give 8, with the whole code as the part that it shows
  pub last_scalar : value (ascii "\"\\{0010FFFF}\"") ≡ record { answer = Ok (Written 4); buffer = 0xF4 ∷ 0x8F ∷ 0xBF ∷ 0xBF ∷ ascii ".." }
  pub past_last : value (ascii "\"\\{00110000}\"") ≡ record { answer = refused_at InvalidEscape 1 (part 1 12); buffer = ascii "......" }
  pub nine_digits : value (ascii "\"\\{000000041}\"") ≡ record { answer = refused_at InvalidEscape 1 (part 1 13); buffer = ascii "......" }
  -- `"` gives 11; `"a"b` 10
  pub unclosed : value (ascii "\"") ≡ record { answer = refused_at UnclosedQuotes 1 (part 0 0); buffer = ascii "......" }
  pub extra : value (ascii "\"a\"b") ≡ record { answer = refused_at ExtraCharacters 1 (part 0 0); buffer = ascii "......" }
  -- indentation of two spaces, `x` CR LF `   y` LF ` ` LF `  z`: `x` LF ` y` LF LF `z`
  pub four_lines : unescape_of (ascii "  x\r\n   y\n \n  z") (token.MultilineValue 1 (part 0 2) (part 2 15)) (ascii "........")
      ≡ record { answer = Ok (Written 7); buffer = ascii "x\n y\n\nz." }
