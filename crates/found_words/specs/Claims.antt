-- Claims about the words of what is found: over the limit 12 comes first, and distinct answers have distinct words, in
-- the order of include/conl.h. proofs/Claimed proves them.
use Rattle.std.specs.Prelude.{ℕ, ◌≤◌, ◌<◌, ◌≡◌, List, [], ◌∷◌, None, Some, Ok, Err, length, drop}
use Rattle.text.specs.Bytes.{part}
use Rattle.text.specs.Numbers.{max_document, too_long}
use Rattle.text.specs.declared.refusals.Refusal.TheVariants.{UnexpectedIndent}
use Rattle.look_up.specs.Entries.{Outcome}
use Rattle.answer_words.specs.Texts.{answer_size}
use Rattle.found_words.specs.Found.{found_words, found_in}

-- over the limit 12 on line 0
abbrev pub FoundOver : Type 0
FoundOver = (d k a : List ℕ) → max_document < length d → answer_size ≤ length a → found_in d k a ≡ 2 ∷ too_long ∷ 0 ∷ 0 ∷ 0 ∷ drop answer_size a

-- distinct answers have distinct words
abbrev pub FoundTold : Type 0
FoundTold = (a b : Outcome) → found_words a ≡ found_words b → a ≡ b

pub record Layout : Type 0 where
  pub nothing : found_words (Ok None) ≡ 0 ∷ 0 ∷ 0 ∷ 0 ∷ 0 ∷ []
  pub found_at : found_words (Ok (Some (record { line = 4; part = part 3 9 }))) ≡ 1 ∷ 0 ∷ 4 ∷ 3 ∷ 9 ∷ []
  pub found_refused : found_words (Err (record { refusal = UnexpectedIndent; line = 4 })) ≡ 2 ∷ 7 ∷ 4 ∷ 0 ∷ 0 ∷ []
