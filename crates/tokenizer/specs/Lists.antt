-- Law: document 01, 'Parser': the tokenizer's list for a document holds every answer of the step, refusals among them,
-- before the first End; over the size limit it is the one refusal 12. The first call gets the fresh state, each later
-- one the state that the last one returned, and all get the same document.
use Rattle.std.specs.Prelude.{ℕ, zero, suc, ◌*◌, ◌≤◌, ◌<◌, ◌≡◌, Some, None, Err, List, [], ◌∷◌, Bool, true, false, cond, ltb, length}
use Rattle.text.specs.Numbers.{max_document, error}
use Rattle.text.specs.declared.refusals.Refusal.TheVariants.{TooLong}
use Rattle.tokenizer.specs.Step.{step_of, fresh}
use Rattle.tokenizer.specs.Token.{Answer}
use Rattle.tokenizer.specs.declared.state.State.{State}

unfoldable pub is_end : Answer → Bool
is_end None = true
is_end (Some a) = false

-- From the first state on, the list's answers come one by one, and at the last state End comes next.
pub data Reads (d : List ℕ) : State → List Answer → State → Type 0 where
  ends : {s : State} → (step_of d s).answer ≡ None → Reads d s [] s
  says : {s t u : State} {a : Answer} {as₁ : List Answer} → step_of d s ≡ record { answer = a; state = t } → is_end a ≡ false
      → Reads d t as₁ u → Reads d s (a ∷ as₁) u

-- the tokenizer's list for a document
pub data TokenList (d : List ℕ) : List Answer → Type 0 where
  over : max_document < length d → TokenList d (Some (Err (error TooLong 0)) ∷ [])
  read : {as₁ : List Answer} {u : State} → length d ≤ max_document → Reads d fresh as₁ u → TokenList d as₁

-- Intermediate: the list, computed. tokenizer_claims, proofs/Claimed, shows that it is the one list that is read, and
-- that the steps given here suffice.
unfoldable pub run : ℕ → List ℕ → State → List Answer
run zero d s = []
run (suc n) d s =
    let r = (step_of d s).answer ∷ run n d (step_of d s).state in
    cond (is_end (step_of d s).answer) [] r

unfoldable pub tokens : List ℕ → List Answer
tokens d = let r = run (2 * length d) d fresh in cond (ltb max_document (length d)) (Some (Err (error TooLong 0)) ∷ []) r
