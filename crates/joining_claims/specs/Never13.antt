-- Claim about the law: 2, its second half. No token of a reading is refused by 13: its text and its indentation lie
-- within the document and are UTF-8. proofs/Unescaping proves it.
use Rattle.std.specs.Prelude.{ℕ, ◌≤◌, ◌≡◌, List, false, eqb, length, Result, Ok, Err}
use Rattle.text.specs.Numbers.{max_document, unfit_token, number_of}
use Rattle.tokenizer.specs.Lists.{tokens}
use Rattle.unescape.specs.Unescape.{unescape_of}
use Rattle.unescape.specs.declared.answer.Answer.{Answer}
use Rattle.unescape.specs.declared.answer.Error.{Error}
use Rattle.joining_claims.specs.Joined.{EachToken}

abbrev pub Not13 : Result Answer Error → Type 0
Not13 (Ok a) = Unit {0}
Not13 (Err e) = eqb (number_of e.error.refusal) unfit_token ≡ false

-- with every buffer
abbrev pub Never13 : Type 0
Never13 = (d : List ℕ) → length d ≤ max_document → EachToken (λ t. (o : List ℕ) → Not13 (unescape_of d t o).answer) (tokens d)
