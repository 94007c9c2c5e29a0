-- The port's own: the law's look-up over lent words, in five: 0 for nothing; 1, 0, the line, start and end of what is
-- found; 2, a refusal's number and line.
use Rattle.std.specs.Prelude.{ℕ, List, [], ◌∷◌, ◌++◌, None, Some, Ok, Err, cond, leb, length, drop}
use Rattle.text.specs.Numbers.{number_of}
use Rattle.look_up.specs.Entries.{Outcome, look_up}
use Rattle.answer_words.specs.Texts.{answer_size}

unfoldable pub found_words : Outcome → List ℕ
found_words (Ok None) = 0 ∷ 0 ∷ 0 ∷ 0 ∷ 0 ∷ []
found_words (Ok (Some f)) = 1 ∷ 0 ∷ f.line ∷ f.part.start ∷ f.part.end ∷ []
found_words (Err e) = 2 ∷ number_of e.refusal ∷ e.line ∷ 0 ∷ 0 ∷ []

-- the words a with the answer at their front, d being the document and w the name that is wanted; unchanged where there are
-- fewer than five
unfoldable pub found_in : List ℕ → List ℕ → List ℕ → List ℕ
found_in d w a = cond (leb answer_size (length a)) (found_words (look_up d w) ++ drop answer_size a) a
