-- Intermediate, tied to the law by proofs/Going: one step of a state in words, in place. Of the words of a fit state it is the
-- step of specs/Step, the tokenizer's or the parser's; of any others it is stated too, so that it asks nothing.
use Rattle.std.specs.Prelude.{Option, Some, None, ℕ, zero, suc, ◌+◌, ◌*◌, List, Bool, false, cond, ◌||◌, eqb, leb, ltb, get_or, take, drop}
use Rattle.tokenizer.specs.Token.{bare}
use Rattle.tokenizer.specs.Said.{said_by}
use Rattle.tokenizer.specs.Front.{front_of, unmoved, ahead_of}
use Rattle.tokenizer.specs.declared.said.Said.{Said}
use Rattle.tokenizer.specs.declared.front.Advanced.{Advanced}
use Rattle.parser_rules.specs.Judging.{judged_by}
use Rattle.parser_rules.specs.declared.judging.Judged.{Judged}
use Rattle.tokenizer_rows.specs.Rows.{row_by, said_in}
use Rattle.tokenizer_words.specs.Words.{pasted_in, state_in}
use Rattle.front_words.specs.Fronts.{committed}
use Rattle.step_words.specs.Outcomes.{nothing, outcome_by, outcome_in}
use Rattle.step_words.specs.declared.outcome.Outcome.{Outcome}
use Rattle.step_words.specs.declared.outcome.SectionWords.{SectionWords}
use Rattle.std.specs.Option.{option_map_or}
use Rattle.step_words.specs.declared.step.Layer.{Layer}
use Rattle.step_words.specs.declared.step.Layer.TheVariants.{Tokenizer, Parser}

-- the parser has refused
unfoldable pub refused_in : Layer → List ℕ → Bool
refused_in Tokenizer w = false
refused_in Parser w = eqb (get_or w 137 0) 1

-- the number of what the parser kept
unfoldable pub kept_number : Layer → List ℕ → ℕ
kept_number Tokenizer w = 0
kept_number Parser w = get_or w 140 0

-- what was kept, as what a step says: 11 is End
abbrev pub kept_said : List ℕ → Said
kept_said w = cond (eqb (get_or w 140 0) 11) nothing (said_in (take 6 (drop 140 w)))

-- what was kept comes again and moves nothing, else the tokenizer's next
unfoldable pub came_in : Layer → List ℕ → List ℕ → Advanced
came_in layer d w =
    cond (eqb (kept_number layer w) 0) (ahead_of d (state_in w)) (unmoved (kept_said w) (front_of (state_in w)))

-- the two words of the innermost section, n being open
unfoldable pub innermost_in : ℕ → List ℕ → Option SectionWords
innermost_in zero w = None
innermost_in (suc n) w = cond (ltb n 65) (Some (record { sort = get_or w (148 + 2 * n) 0; line = get_or w (149 + 2 * n) 0 })) None

-- its sort; 3 where there is none
abbrev pub sort_at : ℕ → List ℕ → ℕ
sort_at n w = option_map_or (λ (s : SectionWords). s.sort) (innermost_in n w) 3

-- the line of the key or item that opened it; 0 where there is none
abbrev pub opened_at : ℕ → List ℕ → ℕ
opened_at n w = option_map_or (λ (s : SectionWords). s.line) (innermost_in n w) 0

-- what the parser judges of an answer of that number
unfoldable pub judged_in : ℕ → List ℕ → Judged
judged_in n w = judged_by n (get_or w 138 0) (sort_at (get_or w 147 0) w) (leb 65 (get_or w 147 0))

-- what that leaves
abbrev pub outcome_for : Said → List ℕ → Outcome
outcome_for s w = outcome_by (judged_in s.number w) s (get_or w 138 0) (get_or w 139 0) (opened_at (get_or w 147 0) w)

-- End and 15 stop
unfoldable pub stops_at : ℕ → Bool
stops_at n = eqb n 0 || eqb n 271

-- the number, where it stops
abbrev pub stop_of : ℕ → Option ℕ
stop_of n = cond (stops_at n) (Some n) None

-- what a step says, and the words after it
pub record Gone : Type 0 where
  pub said : Said
  pub words : List ℕ

-- an answer that changes nothing
abbrev pub stays : ℕ → List ℕ → Gone
stays n w = record { said = said_by (bare n 0); words = w }

-- an answer with the words v after it; one that stops leaves w
abbrev pub gone_by : Said → List ℕ → List ℕ → Gone
gone_by s v w = cond (stops_at s.number) (stays s.number w) (record { said = s; words = v })

-- the tokenizer's step gives on what came
abbrev pub given_on : Advanced → List ℕ → Gone
given_on m w = gone_by m.said (committed m w) w

-- the parser's judges it
abbrev pub ruled_on : Advanced → List ℕ → Gone
ruled_on m w = let o = outcome_for m.said w in gone_by o.answer (outcome_in o (get_or w 147 0) (committed m w)) w

abbrev pub gone_on : Layer → Advanced → List ℕ → Gone
gone_on Tokenizer m w = given_on m w
gone_on Parser m w = ruled_on m w

-- the step
unfoldable pub step_in : Layer → List ℕ → List ℕ → Gone
step_in layer d w = cond (refused_in layer w) (stays 0 w) (gone_on layer (came_in layer d w) w)

-- lent words with its row at their front; unchanged where it stops
abbrev pub row_in : Said → List ℕ → List ℕ
row_in s row = cond (stops_at s.number) row (pasted_in (row_by s) 0 row)
