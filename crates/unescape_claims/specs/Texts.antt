-- Claim: a token's text (token_text/specs/Text) is what unescaping shows of it, whatever buffer is lent (proofs/Texts proves
-- it). With it a name that is compared without a buffer is the text that a caller gets.
use Rattle.std.specs.Prelude.{ℕ, ◌≤◌, ◌<◌, List, ◌++◌, cond, eqb, length, drop, Ok}
use Rattle.text.specs.Numbers.{too_long, number_of}
use Rattle.text.specs.declared.refusals.Refusal.{Refusal}
use Rattle.text.specs.declared.refusals.Refusal.TheVariants.{ShortBuffer}
use Rattle.text.specs.declared.bytes.Part.{Part}
use Rattle.tokenizer.specs.Token.{line_of}
use Rattle.tokenizer.specs.Step.{bytes_of, no_part}
use Rattle.tokenizer.specs.declared.token.Token.{Token}
use Rattle.token_text.specs.Text.{Text, gives, fails, text_in}
use Rattle.unescape.specs.Unescape.{Unescaped, kept_buffer, refused_at, unescape_of}
use Rattle.unescape.specs.declared.answer.Answer.TheVariants.{Plain, Written}

-- the line on which a refusal of a token is told
abbrev pub line_at : Refusal → Token → ℕ
line_at r t = cond (eqb (number_of r) too_long) 0 (line_of t)

-- what is answered of a text of the token t, o being the buffer: the part that it is; the text, written where there is room
-- for it, and 14 where there is none; or its refusal, on the token's line but for 12, which is on line 0
pub data Told (d : List ℕ) (t : Token) (o : List ℕ) : Text → Unescaped → Type 0 where
  plain : {p : Part} → Told d t o (gives (bytes_of d p)) (kept_buffer (Ok (Plain p)) o)
  written : {s : List ℕ} → length s ≤ length o
      → Told d t o (gives s) (record { answer = Ok (Written (length s)); buffer = s ++ drop (length s) o })
  short : {s : List ℕ} → length o < length s → Told d t o (gives s) (kept_buffer (refused_at ShortBuffer (line_of t) no_part) o)
  fail : {r : Refusal} {p : Part} → Told d t o (fails r p) (kept_buffer (refused_at r (line_at r t) p) o)

abbrev pub TextsTold : Type 0
TextsTold = (d : List ℕ) (t : Token) (o : List ℕ) → Told d t o (text_in d t) (unescape_of d t o)
