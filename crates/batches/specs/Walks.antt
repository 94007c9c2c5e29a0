-- Intermediate: batches of steps in words, which proofs/Batching ties to specs/Batch; and the parser's step for the walks inside
-- the library, which specs/Claims ties to the parser's step.
use Rattle.std.specs.Prelude.{ℕ, List, cond, ltb, length, Option, Some, None}
use Rattle.text.specs.Numbers.{max_document, too_long}
use Rattle.tokenizer.specs.Token.{Values, refusal_number}
use Rattle.tokenizer.specs.declared.said.Said.{Said}
use Rattle.step_words.specs.Stepping.{stops_at, Gone, stays, step_in}
use Rattle.step_words.specs.declared.step.Layer.{Layer}
use Rattle.step_words.specs.declared.step.Layer.TheVariants.{Parser}
use Rattle.batches.specs.Batch.{Steps, taken}

abbrev pub values_by : Said → Values
values_by s = record { number = s.number; line = s.line; start = s.start; end = s.end; from = s.from; to = s.to; opened = s.opened }

-- the steps, from words to words
abbrev pub stepping : Layer → List ℕ → Steps (List ℕ)
stepping layer d = record {
  says = λ w. values_by (step_in layer d w).said;
  next = λ w. (step_in layer d w).words;
  stops = λ w. stops_at (step_in layer d w).said.number;
}

-- the number that stops a batch of at most n steps; none where it has no room for it
unfoldable pub last_of : {S : Type 0} → Steps S → ℕ → S → Option ℕ
last_of m n s = let t = taken m n s in cond (ltb (length t.answers) n) (Some (m.says t.state).number) None

-- the parser's step for the walks inside the library: 12, then 15 where what this step uses is unfit, then the step
unfoldable pub next_of : List ℕ → List ℕ → Gone
next_of d w = cond (ltb max_document (length d)) (stays (refusal_number too_long) w) (step_in Parser d w)
