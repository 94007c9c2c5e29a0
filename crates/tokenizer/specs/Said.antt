-- The port's own: an answer in numbers, and read back from them (proofs/Valued).
use Rattle.std.specs.Prelude.{ℕ, ◌-◌, Some, None, Ok, Err, cond, eqb, ltb}
use Rattle.std.specs.Result.{result_unwrap_or}
use Rattle.text.specs.Bytes.{part}
use Rattle.text.specs.Numbers.{error}
use Rattle.text.specs.Refusals.{refusal_of}
use Rattle.text.specs.declared.refusals.Refusal.{Refusal}
use Rattle.text.specs.declared.refusals.Refusal.TheVariants.{UnfitState}
use Rattle.tokenizer.specs.Token.{Answer, Values, refusal_number}
use Rattle.tokenizer.specs.declared.said.Said.{Said}
use Rattle.tokenizer.specs.declared.token.Token.{Token}
use Rattle.tokenizer.specs.declared.token.Token.TheVariants as token

-- an answer's values
abbrev pub said_by : Values → Said
said_by v = record { number = v.number; line = v.line; start = v.start; end = v.end; from = v.from; to = v.to; opened = v.opened }

-- the token of a kind; NoValue for a number that is no other's
unfoldable pub token_of : Said → Token
token_of s =
    cond (eqb s.number 1) (token.Newline s.line)
    (cond (eqb s.number 2) (token.Comment s.line (part s.start s.end))
    (cond (eqb s.number 3) (token.Indent s.line)
    (cond (eqb s.number 4) (token.Outdent s.line s.opened)
    (cond (eqb s.number 5) (token.ListItem s.line)
    (cond (eqb s.number 6) (token.MapKey s.line (part s.start s.end))
    (cond (eqb s.number 7) (token.Value s.line (part s.start s.end))
    (cond (eqb s.number 8) (token.MultilineHint s.line (part s.start s.end))
    (cond (eqb s.number 9) (token.MultilineValue s.line (part s.from s.to) (part s.start s.end))
    (token.NoValue s.line)))))))))

-- the refusal of a number; 15 for one that is no refusal's
abbrev pub refusal_by : ℕ → Refusal
refusal_by n = result_unwrap_or (refusal_of n) UnfitState

-- the answer
unfoldable pub answer_by : Said → Answer
answer_by s =
    cond (eqb s.number 0) None
    (cond (ltb s.number (refusal_number 0)) (Some (Ok (token_of s))) (Some (Err (error (refusal_by (s.number - refusal_number 0)) s.line))))
