-- Claims about the words: what is written is read back, and the words stand in this order, without which two halves
-- that are wrong alike would do. proofs/Claimed and Slotted prove them.
use Rattle.std.specs.Prelude.{Some, ℕ, ◌≤◌, ◌≡◌, List, ◌∷◌, ◌++◌, Bool, true, false, length, replicate}
use Rattle.text.specs.Bytes.{part}
use Rattle.text.specs.Numbers.{max_open}
use Rattle.tokenizer.specs.Step.{no_part, step_of, fresh}
use Rattle.tokenizer.specs.declared.state.State.{State}
use Rattle.tokenizer_words.specs.Words.{tokenizer_size, words_of, stored_in, state_in, readable}

-- a state has its slots, one for each section that may be open: the code's array has no other length
abbrev pub Slots : State → Type 0
Slots s = length s.indents ≡ max_open

-- a state is read back from its words, whatever words follow, and they are taken for a state's
pub record Back (s : State) (r : List ℕ) : Type 0 where
  pub state : state_in (words_of s ++ r) ≡ s
  pub reads : readable (words_of s ++ r) ≡ true

abbrev pub StatesBack : Type 0
StatesBack = (s : State) (r : List ℕ) → Slots s → Back s r

-- also where it is stored
abbrev pub StoredBack : Type 0
StoredBack = (s : State) (w : List ℕ) → Slots s → tokenizer_size ≤ length w → state_in (stored_in s w) ≡ s

-- so every state of a reading is: the fresh one has its slots, and a step keeps them
pub record Slotted : Type 0 where
  pub begins : Slots fresh
  pub steps : (d : List ℕ) (s : State) → Slots s → Slots (step_of d s).state

-- The order of the words, by states in which no two of them are alike throughout

-- at 40, on line 7, with a value mark or a multiline mark, an indentation held and two open
abbrev pub standing : Bool → Bool → State
standing v m = record {
  place = 40;
  line = 7;
  marks = record { indent = false; value = v; multiline = m };
  held = Some (part 33 35);
  indents = part 20 21 ∷ part 28 30 ∷ replicate 62 no_part;
  depth = 2;
}

pub record Layout : Type 0 where
  pub begins : words_of fresh ≡ 0 ∷ 1 ∷ 1 ∷ replicate 134 0
  pub value_mark : words_of (standing true false) ≡ 40 ∷ 7 ∷ 0 ∷ 1 ∷ 0 ∷ 1 ∷ 33 ∷ 35 ∷ 2 ∷ 20 ∷ 21 ∷ 28 ∷ 30 ∷ replicate 124 0
  pub multiline_mark : words_of (standing false true) ≡ 40 ∷ 7 ∷ 0 ∷ 0 ∷ 1 ∷ 1 ∷ 33 ∷ 35 ∷ 2 ∷ 20 ∷ 21 ∷ 28 ∷ 30 ∷ replicate 124 0
