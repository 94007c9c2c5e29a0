-- Intermediate, tied to the law by proofs/Agreeing and Putting: what a judgement of the parser's leaves, and its words.
use Rattle.std.specs.Prelude.{ℕ, Some, ◌+◌, ◌*◌, List, cond, eqb, leb, set}
use Rattle.text.specs.Numbers.{missing_multiline, unfit_state, number_of}
use Rattle.tokenizer.specs.Token.{bare, refusal_number}
use Rattle.tokenizer.specs.Said.{said_by}
use Rattle.tokenizer.specs.declared.said.Said.{Said}
use Rattle.parser_rules.specs.declared.judging.Judged.{Judged}
use Rattle.parser_rules.specs.declared.judging.Judged.TheVariants.{
  GivesOn,
  NoValue,
  Opens,
  Closes,
  Map,
  List as Listed,
  Hint,
  Value,
  Passes,
  Refuses,
  RefusesEntry,
  End,
  Unfit,
}
use Rattle.parser_rules.specs.declared.ruling.Sort.TheVariants as sort
use Rattle.parser_rules.specs.declared.ruling.Change.{Change}
use Rattle.parser_rules.specs.declared.ruling.Change.TheVariants.{Keep, Fix, Open, Close}
use Rattle.parser.specs.Step.{count_after}
use Rattle.tokenizer_words.specs.Words.{pasted_in}
use Rattle.parser_words.specs.ParserWords.{middle_by}
use Rattle.parser_rules.specs.Numbers.{number_of_sort}
use Rattle.step_words.specs.declared.outcome.Outcome.{Outcome}

abbrev pub nothing : Said
nothing = said_by (bare 0 0)

-- what is said, with the line that it carries
abbrev pub carrying : ℕ → Said → Said
carrying o s = record {
  number = s.number;
  line = s.line;
  start = s.start;
  end = s.end;
  from = s.from;
  to = s.to;
  opened = o;
}

abbrev pub given : Said → ℕ → ℕ → Change → Outcome
given s n l c = record { answer = s; awaited = n; line = l; kept = nothing; change = c }

-- what is kept of what came: 11 for End
abbrev pub kept_by : Said → Said
kept_by s = cond (eqb s.number 0) (said_by (bare 11 0)) s

-- what a judgement leaves, s having come where n was awaited with the line l, and o opened the innermost section
unfoldable pub outcome_by : Judged → Said → ℕ → ℕ → ℕ → Outcome
outcome_by GivesOn s n l o = given s n l Keep
outcome_by NoValue s n l o = record { answer = said_by (bare 10 l); awaited = 0; line = 0; kept = kept_by s; change = Keep }
outcome_by Opens s n l o = given s 0 0 (Open l)
outcome_by Closes s n l o = given (carrying o s) 0 0 Close
outcome_by Map s n l o = given s 1 s.line (Fix sort.Map)
outcome_by Listed s n l o = given s 1 s.line (Fix sort.List)
outcome_by Hint s n l o = given s 2 l Keep
outcome_by Value s n l o = given s 0 0 Keep
outcome_by Passes s n l o = given s n l Keep
outcome_by (Refuses r) s n l o = given (said_by (bare (refusal_number (number_of r)) s.line)) 0 0 Keep
outcome_by RefusesEntry s n l o = given (said_by (bare (refusal_number missing_multiline) l)) 0 0 Keep
outcome_by End s n l o = given nothing 0 0 Keep
outcome_by Unfit s n l o = given (said_by (bare (refusal_number unfit_state) 0)) 0 0 Keep

-- the eleven middle words, n sections being open: the answer's number says whether it is a refusal
abbrev pub middle_after : Outcome → ℕ → List ℕ
middle_after o n = middle_by (leb (refusal_number 0) o.answer.number) o.awaited o.line o.kept (count_after o.change n)

-- the words with a section's sort, and the line of one that opens, n being open
unfoldable pub section_put : Change → ℕ → List ℕ → List ℕ
section_put Keep n w = w
section_put (Fix s) n w = set w (146 + 2 * n) (number_of_sort (Some s))
section_put (Open o) n w = set (set w (148 + 2 * n) 0) (149 + 2 * n) o
section_put Close n w = w

-- the words with what a judgement leaves
unfoldable pub outcome_in : Outcome → ℕ → List ℕ → List ℕ
outcome_in o n w = pasted_in (middle_after o n) 137 (section_put o.change n w)
