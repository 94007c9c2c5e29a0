-- Law: document 01, 'Parser': raising adds P's number of line breaks to every line, and P's length to every start and
-- end of a text, empty ones too, or of an indentation; kinds that carry no text keep their zeros. And document 02,
-- request 5: the line that an Outdent carries is raised like the others.
use Rattle.std.specs.Prelude.{Some, None, Result, Ok, Err, zero, suc, ℕ, ◌+◌, List, map}
use Rattle.tokenizer.specs.Token.{Answer}
use Rattle.text.specs.Numbers.{error}
use Rattle.text.specs.declared.refusals.SyntaxError.{SyntaxError}
use Rattle.text.specs.Bytes.{shifted_by}
use Rattle.tokenizer.specs.declared.token.Token.{Token}
use Rattle.tokenizer.specs.declared.token.Token.TheVariants.{
  Newline,
  Comment,
  Indent,
  Outdent,
  ListItem,
  MapKey,
  Value,
  MultilineHint,
  MultilineValue,
  NoValue,
}

-- the line that an Outdent carries. 0 is none: the tokenizer's carry none, and none of a parsing carries 0 (parser_claims, Carried)
abbrev pub raise_opened : ℕ → ℕ → ℕ
raise_opened l zero = zero
raise_opened l (suc o) = l + suc o

-- by l lines and n bytes
unfoldable pub raise_token : ℕ → ℕ → Token → Token
raise_token l n (Newline m) = Newline (l + m)
raise_token l n (Comment m p) = Comment (l + m) (shifted_by n p)
raise_token l n (Indent m) = Indent (l + m)
raise_token l n (Outdent m o) = Outdent (l + m) (raise_opened l o)
raise_token l n (ListItem m) = ListItem (l + m)
raise_token l n (MapKey m p) = MapKey (l + m) (shifted_by n p)
raise_token l n (Value m p) = Value (l + m) (shifted_by n p)
raise_token l n (MultilineHint m p) = MultilineHint (l + m) (shifted_by n p)
raise_token l n (MultilineValue m i p) = MultilineValue (l + m) (shifted_by n i) (shifted_by n p)
raise_token l n (NoValue m) = NoValue (l + m)

-- a token, or a refusal with its line
abbrev pub raise_said : ℕ → ℕ → Result Token SyntaxError → Result Token SyntaxError
raise_said l n (Ok t) = Ok (raise_token l n t)
raise_said l n (Err e) = Err (error e.refusal (l + e.line))

-- an answer, the tokenizer's or the parser's
unfoldable pub raise : ℕ → ℕ → Answer → Answer
raise l n None = None
raise l n (Some r) = Some (raise_said l n r)

abbrev pub raised : ℕ → ℕ → List Answer → List Answer
raised l n as₁ = map (raise l n) as₁
