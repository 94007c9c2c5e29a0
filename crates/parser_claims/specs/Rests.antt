-- What is left of a parsing, as a function of its state: the laws by which the loops of the library go. Its length is their measure.
use Rattle.tokenizer.specs.Token.{Answer}
use Rattle.std.specs.Prelude.{ℕ, zero, suc, ◌*◌, ◌≤◌, ◌≡◌, List, [], ◌∷◌, true, false, cond, length}
use Rattle.parser.specs.Step.{step_of, fresh}
use Rattle.parser.specs.Lists.{Parses, parse}
use Rattle.tokenizer.specs.Lists.{is_end}
use Rattle.parser.specs.declared.state.State.{State}
use Rattle.parser_claims.specs.Claims.{Fits, All}

-- at most n answers from a state on, up to the first End
unfoldable pub up_to : List ℕ → ℕ → State → List Answer
up_to d zero s = []
up_to d (suc n) s = cond (is_end (step_of d s).answer) [] ((step_of d s).answer ∷ up_to d n (step_of d s).state)

-- what is left from a state of a parsing of d on
abbrev pub rest : List ℕ → State → List Answer
rest d s = up_to d (2 * length d) s

-- a state of a parsing of d: what is left comes, fits, and is within the bound
pub record Stands (d : List ℕ) (s : State) : Type 0 where
  pub last : State
  pub parses : Parses d s (rest d s) last
  pub fits : All (Fits d) (rest d s)
  pub bound : length (rest d s) ≤ 2 * length d

-- a loop begins at the fresh state, with the whole list before it
abbrev pub FreshStands : Type 0
FreshStands = (d : List ℕ) → length d ≤ 16777216 → (rest d fresh ≡ parse d) × Stands d fresh

-- it ends with End
abbrev pub RestEnd : Type 0
RestEnd = (d : List ℕ) (s : State) → is_end (step_of d s).answer ≡ true → rest d s ≡ []

-- any other answer is the first of what is left, and fits; and the state after it is one of the parsing
abbrev pub RestStep : Type 0
RestStep = (d : List ℕ) (s : State) → Stands d s → is_end (step_of d s).answer ≡ false
    → rest d s ≡ (step_of d s).answer ∷ rest d (step_of d s).state

abbrev pub StepFits : Type 0
StepFits = (d : List ℕ) (s : State) → Stands d s → is_end (step_of d s).answer ≡ false → Fits d (step_of d s).answer

abbrev pub StepStands : Type 0
StepStands = (d : List ℕ) (s : State) → Stands d s → is_end (step_of d s).answer ≡ false → Stands d (step_of d s).state
