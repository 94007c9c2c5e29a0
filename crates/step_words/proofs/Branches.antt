-- An answer by its branches: one that stops changes nothing, and any other goes on.
use Prim.Native.Nat.{ℕ}
use mathlib.Core.Path.{◌≡◌, refl, sym, ◌∙◌}
use mathlib.Core.List.{List}
use mathlib.Core.Bool.{Bool, true, false, cond}
use Rattle.std.specs.Prelude.{Option}
use Rattle.std.specs.Option.{is_some}
use Rattle.text.proofs.Cases.{by_bool, on-cond, clash}
use Rattle.tokenizer.specs.declared.said.Said.{Said}
use Rattle.step_words.specs.Stepping.{refused_in, stops_at, stop_of, Gone, stays, gone_by, step_in}
use Rattle.step_words.specs.declared.step.Layer.{Layer}
use Rattle.step_words.specs.declared.step.Layer.TheVariants.{Tokenizer, Parser}

-- by what the answer is, whether it stops, and what the words after it are
pub gone_is : {s a : Said} {u v : List ℕ} (w : List ℕ) (b : Bool) → s ≡ a → stops_at a.number ≡ b → (b ≡ false → u ≡ v)
    → gone_by s u w ≡ cond b (stays a.number w) (record { said = a; words = v })
gone_is w b p q r = by_bool b (λ e. rw (p, q, e)) (λ e. rw (p, q, e, r e))

-- a stop changes nothing, and is of no line
abbrev pub Stays : List ℕ → Gone → Type 0
Stays w g = stops_at g.said.number ≡ true → g ≡ stays g.said.number w

gone-stays : (s : Said) (v w : List ℕ) → Stays w (gone_by s v w)
gone-stays s v w = on-cond (Stays w) (stops_at s.number) (λ _ _. refl) (λ e t. absurd (clash (sym t ∙ e)))

pub stop-stays : (layer : Layer) (d w : List ℕ) → Stays w (step_in layer d w)
unfolding step_in
stop-stays Tokenizer d w = on-cond (Stays w) (refused_in Tokenizer w) (λ _ _. refl) (λ _. gone-stays _ _ w)
stop-stays Parser d w = on-cond (Stays w) (refused_in Parser w) (λ _ _. refl) (λ _. gone-stays _ _ w)

-- whether it stops, by what a step returns
pub stop_some : {r : Option ℕ} {b : Bool} (n : ℕ) → r ≡ stop_of n → b ≡ is_some r → stops_at n ≡ b
stop_some n p q = rw (q, p) (by_bool (stops_at n) (λ e. rw e) (λ e. rw e))
