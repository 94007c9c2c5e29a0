-- The tokenizer's answers carry no line: it knows none that opened a section.
use Prim.Native.Nat.{ℕ}
use mathlib.Core.Path.{◌≡◌, refl}
use mathlib.Core.List.{List}
use lib.Dec.{ltb}
use lib.ListN.{length}
use Rattle.text.specs.declared.bytes.Part.{Part}
use Rattle.text.proofs.Cases.{on-cond}
use Rattle.tokenizer_rules.specs.declared.plan.Says.{Says}
use Rattle.tokenizer_rules.specs.declared.plan.Says.TheVariants.{
  End,
  Newline,
  Comment,
  Indent,
  Outdent,
  ListItem,
  MapKey,
  Value,
  MultilineHint,
  MultilineValue,
  Refused,
}
use Rattle.tokenizer.specs.Token.{Answer, token_values, values_of}
use Rattle.tokenizer.specs.Step.{answer_of, step_with, step_rule, fit, step_of}
use Rattle.tokenizer.specs.declared.state.State.{State}
use Rattle.tokenizer.specs.declared.state.Step.{Step}

abbrev pub CarriesNone : Answer → Type 0
CarriesNone a = (values_of a).opened ≡ 0

said-none : (x : Says) (l n : ℕ) (i : Part) → CarriesNone (answer_of x l n i)
unfolding values_of token_values
said-none End l n i = refl
said-none Newline l n i = refl
said-none (Comment p) l n i = refl
said-none Indent l n i = refl
said-none Outdent l n i = refl
said-none ListItem l n i = refl
said-none (MapKey p) l n i = refl
said-none (Value p) l n i = refl
said-none (MultilineHint p) l n i = refl
said-none (MultilineValue p) l n i = refl
said-none (Refused r) l n i = refl

pub step-none : (d : List ℕ) (s : State) → CarriesNone (step_of d s).answer
unfolding step_of step_rule step_with values_of
step-none d s =
    on-cond (λ (x : Step State). CarriesNone x.answer) (ltb 16777216 (length d)) (λ e. refl)
    (λ e. on-cond (λ (x : Step State). CarriesNone x.answer) (fit (length d) s) (λ f. said-none _ _ _ _) (λ f. refl))
