-- Readings in general: a state has one; what each step keeps holds to its end; and where each step lowers a number unless it
-- says End, that number bounds the answers, and the list that is computed in so many steps is read.
use Rattle.std.specs.Prelude.{Some, None}
use Rattle.tokenizer.specs.Token.{Answer}
use Prim.Native.Nat.{ℕ, zero, suc, ◌≤◌, ◌<◌}
use mathlib.Core.Path.{◌≡◌, refl, sym, ap, ◌∙◌, subst}
use mathlib.Core.List.{List, ◌∷◌}
use mathlib.Core.Bool.{true, false, false≢true}
use native.Mathlib.Omega.{arith}
use lib.ListN.{length}
use Rattle.text.proofs.Cases.{by_bool}
use Rattle.tokenizer.specs.Step.{step_of}
use Rattle.tokenizer.specs.Lists.{is_end, Reads, ends, says, run}
use Rattle.tokenizer.specs.declared.state.State.{State}
use Rattle.tokenizer_claims.specs.Claims.{All}
use Rattle.tokenizer.specs.declared.state.Step.{Step}

pub is-end : (a : Answer) → is_end a ≡ true → a ≡ None
unfolding is_end
is-end None e = refl
is-end (Some a) e = absurd cc

-- End comes last
pub reads_end : {d : List ℕ} {s u : State} {l : List Answer} → Reads d s l u → (step_of d u).answer ≡ None
reads_end (ends e) = e
reads_end (says q f r) = reads_end r

-- after End nothing is said, by the tokenizer's steps or by the parser's
pub no_more : {S : Type 0} {x : Step S} {a : Answer} {t : S} → x.answer ≡ None → x ≡ record { answer = a; state = t } → is_end a ≡ false → ⊥
unfolding is_end
no_more e q f = false≢true (sym f ∙ ap is_end (rw q at e))

-- the answers of a reading are determined
pub reads-one : {d : List ℕ} {s u v : State} {l m : List Answer} → Reads d s l u → Reads d s m v → l ≡ m
reads-one (ends e) (ends f) = refl
reads-one (ends e) (says q f r) = absurd (no_more e q f)
reads-one (says q f r) (ends e) = absurd (no_more e q f)
reads-one {d} (says {as₁ = l} q f r) (says {u = v} {as₁ = m} q' f' r') =
    let same = sym q' ∙ q in
    let rest : l ≡ m = reads-one r (subst (λ x. Reads d x m v) (ap (λ x. x.state) same) r') in
    cc (ap (λ x. x.answer) same)

-- one more answer in front
pub more : (d : List ℕ) (s : State) {a : Answer} {l : List Answer} → (step_of d s).answer ≡ a → is_end a ≡ false
    → (u : State) × Reads d (step_of d s).state l u → (u : State) × Reads d s (a ∷ l) u
more d s e f r = (r.0, says (λ i. record { answer = e i; state = (step_of d s).state }) f r.1)

-- Kept is what each step keeps
module _ {d : List ℕ} {Kept : State → Type 0} (keep : (s : State) → Kept s → Kept (step_of d s).state) where
  pub last-kept : {s u : State} {l : List Answer} → Reads d s l u → Kept s → Kept u
  last-kept (ends e) k = k
  last-kept (says {s = s} q f r) k = last-kept r (rw q at (keep s k))

  pub all-kept : (P : Answer → Type 0) → ((s : State) → Kept s → is_end (step_of d s).answer ≡ false → P (step_of d s).answer)
      → {s u : State} {l : List Answer} → Reads d s l u → Kept s → All P l
  all-kept P h (ends e) k = tt
  all-kept P h (says {s = s} q f r) k = (rw q at (h s k (rw q f)), all-kept P h r (rw q at (keep s k)))

  module _ (weight : State → ℕ)
      (falls : (s : State) → Kept s → is_end (step_of d s).answer ≡ false → weight (step_of d s).state < weight s) where
    pub length-le : {s u : State} {l : List Answer} → Reads d s l u → Kept s → length l ≤ weight s
    length-le (ends e) k = omega arith
    length-le (says {s = s} q f r) k = omega (arith, length-le r (rw q at (keep s k)), rw q at (falls s k (rw q f)))

    pub run-reads : (n : ℕ) (s : State) → Kept s → weight s ≤ n → (u : State) × Reads d s (run n d s) u
    unfolding run
    run-reads zero s k w =
        by_bool (is_end (step_of d s).answer)
        (λ e. (s, ends (is-end (step_of d s).answer e)))
        (λ e. absurd (omega (arith, falls s k e)))
    run-reads (suc n) s k w =
        by_bool (is_end (step_of d s).answer)
        (λ e. rw e (s, ends (is-end (step_of d s).answer e)))
        (λ e. rw e (more d s refl e (run-reads n (step_of d s).state (keep s k) (omega (arith, falls s k e)))))
