-- Intermediate: what the parser makes of an answer of the tokenizer, by the answer's number; and the ruling that stands
-- for. proofs/Law shows that it is the law's ruling.
use Rattle.std.specs.Prelude.{Option, Some, None, Ok, Err, ℕ, Bool, cond, eqb, leb}
use Rattle.tokenizer.specs.Token.{Answer as Came, refusal_number, line_of}
use Rattle.text.specs.declared.refusals.Refusal.TheVariants.{MissingMultiline, UnexpectedKey, UnexpectedItem, UnexpectedIndent}
use Rattle.tokenizer.specs.declared.token.Token.TheVariants as token
use Rattle.tokenizer.specs.declared.token.Token.{Token}
use Rattle.parser_rules.specs.Ruling.{gives, refuses, no_value}
use Rattle.parser_rules.specs.Numbers.{number_of_sort, awaited_line}
use Rattle.parser_rules.specs.declared.ruling.Sort.TheVariants as sort
use Rattle.parser_rules.specs.declared.ruling.Awaited.{Awaited}
use Rattle.parser_rules.specs.declared.ruling.Awaited.TheVariants as awaited
use Rattle.parser_rules.specs.declared.ruling.Kept.{Kept}
use Rattle.parser_rules.specs.declared.ruling.Kept.TheVariants as kept
use Rattle.parser_rules.specs.declared.ruling.Section.{Section}
use Rattle.parser_rules.specs.declared.ruling.Change.TheVariants as change
use Rattle.parser_rules.specs.declared.ruling.Ruling.{Ruling}
use Rattle.parser_rules.specs.declared.ruling.Ruling.TheVariants as ruling
use Rattle.parser_rules.specs.declared.judging.Judged.{Judged}
use Rattle.parser_rules.specs.declared.judging.Judged.TheVariants.{GivesOn, NoValue, Opens, Closes, Map, List as Listed, Hint, Value, Passes, Refuses, RefusesEntry, End, Unfit}

-- of the innermost section; 3 where there is none
abbrev pub sort_number : Option Section → ℕ
sort_number None = 3
sort_number (Some s) = number_of_sort s.sort

-- the line of the key or item that opened it
abbrev pub opened_line : Option Section → ℕ
opened_line None = 0
opened_line (Some s) = s.line

unfoldable pub outdent_by : ℕ → Judged
outdent_by s = cond (eqb s 3) Unfit Closes

unfoldable pub item_by : ℕ → Judged
item_by s = cond (eqb s 1) (Refuses UnexpectedItem) (cond (eqb s 3) Unfit Listed)

unfoldable pub key_by : ℕ → Judged
key_by s = cond (eqb s 2) (Refuses UnexpectedKey) (cond (eqb s 3) Unfit Map)

unfoldable pub settled_by : ℕ → ℕ → Judged
settled_by n s =
    cond (eqb n 0) End (cond (eqb n 1) GivesOn (cond (eqb n 2) GivesOn (cond (eqb n 3) (Refuses UnexpectedIndent)
    (cond (eqb n 4) (outdent_by s) (cond (eqb n 5) (item_by s) (cond (eqb n 6) (key_by s) Unfit))))))

unfoldable pub after_entry_by : ℕ → Bool → Judged
after_entry_by n full =
    cond (eqb n 1) GivesOn (cond (eqb n 2) GivesOn (cond (eqb n 3) (cond full Unfit Opens) (cond (eqb n 7) Value (cond (eqb n 8) Hint NoValue))))

unfoldable pub after_hint_by : ℕ → Judged
after_hint_by n = cond (eqb n 1) GivesOn (cond (eqb n 2) GivesOn (cond (eqb n 9) Value RefusesEntry))

unfoldable pub judged_by : ℕ → ℕ → ℕ → Bool → Judged
judged_by n a s full = cond (leb (refusal_number 0) n) Passes (cond (eqb a 1) (after_entry_by n full) (cond (eqb a 2) (after_hint_by n) (settled_by n s)))

-- the ruling that is meant, a being what was awaited, o the innermost section's line, t the token that came and k what
-- is kept of it
unfoldable pub made_by : Judged → Awaited → ℕ → Token → Kept → Ruling
made_by GivesOn a o t k = gives t a change.Keep
made_by NoValue a o t k = no_value (awaited_line a) k
made_by Opens a o t k = gives t awaited.Nothing (change.Open (awaited_line a))
made_by Closes a o t k = gives (token.Outdent (line_of t) o) awaited.Nothing change.Close
made_by Map a o t k = gives t (awaited.Value (line_of t)) (change.Fix sort.Map)
made_by Listed a o t k = gives t (awaited.Value (line_of t)) (change.Fix sort.List)
made_by Hint a o t k = gives t (awaited.Multiline (awaited_line a)) change.Keep
made_by Value a o t k = gives t awaited.Nothing change.Keep
made_by Passes a o t k = ruling.End
made_by (Refuses n) a o t k = refuses n (line_of t) awaited.Nothing
made_by RefusesEntry a o t k = refuses MissingMultiline (awaited_line a) awaited.Nothing
made_by End a o t k = ruling.End
made_by Unfit a o t k = ruling.Unfit

-- of what came: a refusal is given on
abbrev pub ruling_by : Judged → Awaited → ℕ → Came → Ruling
ruling_by v a o None = made_by v a o (token.NoValue 0) kept.End
ruling_by v a o (Some (Ok t)) = made_by v a o t (kept.Token t)
ruling_by v a o (Some (Err e)) = refuses e.refusal e.line a
