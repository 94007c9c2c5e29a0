-- Intermediate, tied to the law by proofs/Fronts: what one step of the tokenizer leaves in the words.
use Rattle.std.specs.Prelude.{ℕ, ◌+◌, ◌*◌, List, [], ◌∷◌, cond, ltb, get_or}
use Rattle.text.specs.Numbers.{max_open}
use Rattle.text.specs.declared.bytes.Part.{Part}
use Rattle.tokenizer.specs.declared.front.Advanced.{Advanced}
use Rattle.tokenizer_rules.specs.declared.plan.Change.{Change}
use Rattle.tokenizer_rules.specs.declared.plan.Change.TheVariants.{Keep, Open, Close, Hold}
use Rattle.tokenizer_words.specs.Words.{pasted_in, front_words}

-- the words with an indentation that opens in its slot, n being open
unfoldable pub slot_in : Change → Part → ℕ → List ℕ → List ℕ
slot_in Keep i n w = w
slot_in Open i n w = cond (ltb n max_open) (pasted_in (i.start ∷ i.end ∷ []) (9 + 2 * n) w) w
slot_in Close i n w = w
slot_in Hold i n w = w

-- the words with what a step comes to
unfoldable pub committed : Advanced → List ℕ → List ℕ
committed m w = slot_in m.change m.indent (get_or w 8 0) (pasted_in (front_words m.front) 0 w)
