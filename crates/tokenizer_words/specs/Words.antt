-- The port's own, not document 01's, and told in include/conl.h: a tokenizer's state in the words of a lent slice.
-- Place, line, the three marks (0 or 1), whether an indentation is held (0 or 1) with its start and end, the number of
-- open indentations, and the start and end of each of the 64 slots. 137 words. What a step leaves in them in place is
-- intermediate: proofs/Standing shows that it is the words of the law's step.
use Rattle.std.specs.Prelude.{Option, Some, None, ℕ, zero, suc, ◌+◌, ◌*◌, List, [], ◌∷◌, ◌++◌, Bool, true, false, cond, ◌&&◌, eqb, leb, length, get_or, take, drop}
use Rattle.text.specs.Bytes.{part}
use Rattle.text.specs.Numbers.{max_open}
use Rattle.text.specs.declared.bytes.Part.{Part}
use Rattle.tokenizer.specs.declared.state.State.{State}
use Rattle.tokenizer.specs.Step.{fresh}
use Rattle.tokenizer.specs.Front.{front_of}
use Rattle.tokenizer.specs.declared.front.Front.{Front}

-- how many words a state has: nine, and two for each slot, 137
abbrev pub tokenizer_size : ℕ
tokenizer_size = 9 + 2 * max_open

-- the words w with those of s written over them from the nth on
unfoldable pub pasted : List ℕ → ℕ → List ℕ → List ℕ
pasted s n w = take n w ++ s ++ drop (n + length s) w

-- the same where they fit; else w as it is
unfoldable pub pasted_in : List ℕ → ℕ → List ℕ → List ℕ
pasted_in s n w = cond (leb (n + length s) (length w)) (pasted s n w) w

unfoldable pub flag : Bool → ℕ
flag true = 1
flag false = 0

unfoldable pub held_words : Option Part → List ℕ
held_words None = 0 ∷ 0 ∷ 0 ∷ []
held_words (Some p) = 1 ∷ p.start ∷ p.end ∷ []

unfoldable pub part_words : List Part → List ℕ
part_words [] = []
part_words (p ∷ ps) = p.start ∷ p.end ∷ part_words ps

-- all but the slots: nine words
unfoldable pub front_words : Front → List ℕ
front_words f =
    f.place ∷ f.line ∷ flag f.marks.indent ∷ flag f.marks.value ∷ flag f.marks.multiline
    ∷ (held_words f.held ++ (f.depth ∷ []))

-- the words of a state
unfoldable pub words_of : State → List ℕ
words_of s = front_words (front_of s) ++ part_words s.indents

-- the words with the state at their front; unchanged where there are fewer than 137
unfoldable pub stored_in : State → List ℕ → List ℕ
stored_in s w = cond (leb tokenizer_size (length w)) (words_of s ++ drop tokenizer_size w) w

-- the parts in 2n words
unfoldable pub parts_in : ℕ → List ℕ → List Part
parts_in zero w = []
parts_in (suc n) w = part (get_or w 0 0) (get_or w 1 0) ∷ parts_in n (drop 2 w)

-- what is held, by its three words
abbrev pub held_by : ℕ → ℕ → ℕ → Option Part
held_by n a e = cond (eqb n 1) (Some (part a e)) None

-- the state in words
unfoldable pub state_in : List ℕ → State
state_in w = record {
  place = get_or w 0 0;
  line = get_or w 1 0;
  marks = record { indent = eqb (get_or w 2 0) 1; value = eqb (get_or w 3 0) 1; multiline = eqb (get_or w 4 0) 1 };
  held = held_by (get_or w 5 0) (get_or w 6 0) (get_or w 7 0);
  indents = parts_in max_open (drop 9 w);
  depth = get_or w 8 0;
}

-- the words are a state's: there are 137, and what is to be 0 or 1 is; else they are an unfit state, 15
unfoldable pub readable : List ℕ → Bool
readable w = leb tokenizer_size (length w) && (leb (get_or w 2 0) 1 && (leb (get_or w 3 0) 1 && (leb (get_or w 4 0) 1 && leb (get_or w 5 0) 1)))

-- the words with the fresh state at their front
abbrev pub fresh_in : List ℕ → List ℕ
fresh_in w = stored_in fresh w
