-- The keys of a reading come in the order of their starts: what a step says lies between its place and that of the next step.
use Rattle.std.specs.Prelude.{Some, None, Ok, Err}
use Rattle.tokenizer.specs.Token.{Answer}
use Rattle.text.specs.declared.refusals.SyntaxError.{SyntaxError}
use Prim.Native.Nat.{ℕ, ◌+◌, ◌≤◌}
use mathlib.Core.Path.{◌≡◌}
use mathlib.Core.List.{List, [], ◌∷◌}
use mathlib.Core.Bool.{false}
use native.Mathlib.Omega.{arith}
use lib.ListN.{length}
use Rattle.text.specs.declared.bytes.Part.{Part}
use Rattle.tokenizer.specs.Step.{reach, answer_of, after_plan, step_with, step_rule, step_of}
use Rattle.tokenizer.specs.Lists.{is_end, Reads, ends, says}
use Rattle.tokenizer_rules.specs.declared.plan.Says.{Says}
use Rattle.tokenizer_rules.specs.declared.plan.Says.TheVariants as says
use Rattle.tokenizer.specs.declared.token.Token.{Token as ReadToken}
use Rattle.tokenizer.specs.declared.token.Token.TheVariants as token
use Rattle.tokenizer.specs.declared.state.State.{State}
use Rattle.tokenizer_claims.proofs.Sound.{indent_at, plan_of, step-bounded, Sound, step-sound}
use Rattle.tokenizer_claims.proofs.Claimed.{sound-kept}

-- a key reaches its start
abbrev pub reached : ℕ → ReadToken → ℕ
reached n (token.Newline l) = n
reached n (token.Comment l p) = n
reached n (token.Indent l) = n
reached n (token.Outdent l o) = n
reached n (token.ListItem l) = n
reached n (token.MapKey l p) = p.start
reached n (token.Value l p) = n
reached n (token.MultilineHint l p) = n
reached n (token.MultilineValue l i p) = n
reached n (token.NoValue l) = n

-- up to a refusal, each key starts at n or after, and not before the last one
pub data Placed : ℕ → List Answer → Type 0 where
  none : {n : ℕ} → Placed n []
  refused : {n : ℕ} {e : SyntaxError} {as₁ : List Answer} → Placed n (Some (Err e) ∷ as₁)
  more : {n : ℕ} {t : ReadToken} {as₁ : List Answer} → n ≤ reached n t → Placed (reached n t) as₁ → Placed n (Some (Ok t) ∷ as₁)

abbrev Between : ℕ → Answer → ℕ → Type 0
Between n None k = Unit {0}
Between n (Some (Ok t)) k = (n ≤ reached n t) × (reached n t ≤ k)
Between n (Some (Err e)) k = Unit {0}

-- what is said at the place m, j bytes being passed
said-between : (n : ℕ) (x : Says) (l m j : ℕ) (i : Part) → n ≤ m → reach x ≤ j → Between n (answer_of x l m i) (m + j)
said-between n says.End l m j i h r = tt
said-between n says.Newline l m j i h r = omega arith
said-between n (says.Comment p) l m j i h r = omega arith
said-between n says.Indent l m j i h r = omega arith
said-between n says.Outdent l m j i h r = omega arith
said-between n says.ListItem l m j i h r = omega arith
said-between n (says.MapKey p) l m j i h r = omega arith
said-between n (says.Value p) l m j i h r = omega arith
said-between n (says.MultilineHint p) l m j i h r = omega arith
said-between n (says.MultilineValue p) l m j i h r = omega arith
said-between n (says.Refused c) l m j i h r = tt

module _ (d : List ℕ) (l : length d ≤ 16777216) where
  step-between : (n : ℕ) (s : State) → Sound d s → n ≤ s.place → Between n (step_of d s).answer (step_of d s).state.place
  unfolding step_rule step_with after_plan
  step-between n s o h =
      rw (step-sound d s l o) (said-between n (plan_of d s).says s.line s.place _ (indent_at d s) h (step-bounded d s).reach)

  placed : {n k : ℕ} {as₁ : List Answer} (a : Answer) → is_end a ≡ false → Between n a k → ((m : ℕ) → m ≤ k → Placed m as₁) → Placed n (a ∷ as₁)
  unfolding is_end
  placed None f b h = absurd cc
  placed (Some (Ok t)) f b h = more b.0 (h _ b.1)
  placed (Some (Err e)) f b h = refused

  pub reads-placed : {s u : State} {as₁ : List Answer} → Reads d s as₁ u → Sound d s → (n : ℕ) → n ≤ s.place → Placed n as₁
  reads-placed (ends e) o n h = none
  reads-placed (says {s = s} {a = a} q f r) o n h =
      placed a f (rw q at (step-between n s o h)) (reads-placed r (rw q at (sound-kept d l s o)))
