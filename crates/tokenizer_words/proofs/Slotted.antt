-- A step keeps the number of slots, whatever the state and the document.
use Prim.Native.Nat.{ℕ}
use mathlib.Core.Path.{◌≡◌, refl, ◌∙◌}
use mathlib.Core.List.{List}
use lib.Dec.{ltb}
use lib.ListN.{length, drop, length-set}
use Rattle.text.proofs.Cases.{on-cond}
use Rattle.text.specs.declared.bytes.Part.{Part}
use Rattle.tokenizer_rules.specs.declared.plan.Change.{Change}
use Rattle.tokenizer_rules.specs.declared.plan.Change.TheVariants.{Keep, Open, Close, Hold}
use Rattle.tokenizer.specs.Step.{indent_of, size_of, indents_after, plan_with, after_plan, step_with, step_rule, fit, step_of, fresh}
use Rattle.tokenizer.specs.declared.state.State.{State}
use Rattle.tokenizer_words.specs.Claims.{Slotted}
use Rattle.tokenizer.specs.declared.state.Step.{Step}

indents-length : (c : Change) (i : Part) (is : List Part) (n : ℕ) → length (indents_after c i is n) ≡ length is
indents-length Keep i is n = refl
indents-length Open i is n = length-set is n i
indents-length Close i is n = refl
indents-length Hold i is n = refl

rule-slots : (d : List ℕ) (s : State) → length (step_rule d s).state.indents ≡ length s.indents
unfolding step_rule step_with after_plan
rule-slots d s =
    let rest = drop s.place d in
    let i = indent_of s.held s.place rest in
    indents-length (plan_with d s i (size_of s.held rest)).change i s.indents s.depth

pub step-slots : (d : List ℕ) (s : State) → length (step_of d s).state.indents ≡ length s.indents
unfolding step_of
step-slots d s =
    let Kept : Step State → Type 0 = λ x. length x.state.indents ≡ length s.indents in
    on-cond Kept (ltb 16777216 (length d)) (λ _. refl)
    (λ _. on-cond Kept (fit (length d) s) (λ _. rule-slots d s) (λ _. refl))

pub slotted : Slotted
unfolding fresh
slotted = record { begins = refl; steps = λ d s e. step-slots d s ∙ e }
