-- The step without the record of open indentations: what its test tells, and that of a fit state it is the step.
use Prim.Native.Nat.{ℕ, ◌+◌, ◌^◌, ◌≤◌, ◌<◌}
use mathlib.Core.Path.{◌≡◌, ap, ◌∙◌}
use mathlib.Core.List.{List}
use mathlib.Core.Bool.{true, false}
use native.Mathlib.Omega.{arith}
use lib.ListN.{length, drop, length-drop}
use borrow.Author.Tests.{lt-ltb, le-ltb}
use Rattle.text.specs.declared.bytes.Part.{Part}
use Rattle.text.specs.declared.refusals.Refusal.TheVariants.{TooLong, UnfitState}
use Rattle.text.proofs.Cases.{and_left, and_right}
use Rattle.tokenizer_rules.specs.Plan.{plan_at}
use Rattle.tokenizer_rules.specs.declared.plan.Plan.{Plan}
use Rattle.tokenizer.specs.Token.{values_of}
use Rattle.tokenizer.specs.Step.{inner_of, indents_after, depth_after, reach, plan_with, after_plan, step_with, step_rule, fit_part, fit, step_of}
use Rattle.tokenizer.specs.Front.{front_of, front_fit, advance_with, advance_rule, near, staying, advanced_of, state_by}
use Rattle.tokenizer.specs.declared.state.State.{State}
use Rattle.tokenizer.specs.declared.front.Front.{Front}
use Rattle.tokenizer.proofs.Bounds.{plan-bounded}
use Rattle.tokenizer.proofs.Fitness.{FrontFitness, front-fitness, fitness, fit_parts, inner-fit}
use Rattle.tokenizer.proofs.Numbers.{ruled-number}
use Rattle.tokenizer.proofs.Steps.{ruled}
use Rattle.tokenizer.proofs.Valued.{back}
use Rattle.tokenizer.specs.Said.{said_by, answer_by}
use Rattle.tokenizer.specs.declared.state.Step.{Step}

-- what a step uses: the front, and the innermost open indentation
pub near-front : (n : ℕ) (f : Front) (inner : Part) → near n f inner ≡ true → FrontFitness n f
unfolding near
near-front n f inner e = front-fitness n f (and_left _ (fit_part n inner) e)

pub near-inner : (n : ℕ) (f : Front) (inner : Part) → near n f inner ≡ true → fit_part n inner ≡ true
unfolding near
near-inner n f inner e = and_right (front_fit n f) _ e

-- what a plan adds fits a machine word
pub record Room (f : Front) (p : Plan) : Type 0 where
  pub depth : f.depth ≤ 64
  pub place : f.place + p.pass < 2 ^ 64
  pub line : f.line + p.lines < 2 ^ 64
  pub text : f.place + reach p.says < 2 ^ 64

pub room : (d : List ℕ) (f : Front) (x y : List ℕ) (k : ℕ) {p : Plan} → length d ≤ 16777216 → FrontFitness (length d) f
    → p ≡ plan_at f.marks f.depth x y (drop f.place d) k → Room f p
room d f x y k h n e =
    let b = rw (← e) at (plan-bounded f.marks f.depth x y (drop f.place d) k) in
    let l = length-drop f.place d in
    let o = n.place in
    let q = n.line-high in
    record {
      depth = n.depth;
      place = omega arith;
      line = omega arith;
      text = omega arith;
    }

module _ (d : List ℕ) (f : Front) (inner : Part) where
  pub over : 16777216 < length d → advanced_of d f inner ≡ staying f TooLong
  unfolding advanced_of
  over h = rw (lt-ltb 16777216 (length d) h)

  pub far : length d ≤ 16777216 → near (length d) f inner ≡ false → advanced_of d f inner ≡ staying f UnfitState
  unfolding advanced_of
  far h e = rw (le-ltb 16777216 (length d) h, e)

  pub advances : length d ≤ 16777216 → near (length d) f inner ≡ true → advanced_of d f inner ≡ advance_rule d f inner
  unfolding advanced_of
  advances h e = rw (le-ltb 16777216 (length d) h, e)

-- THE LAW. Of a fit state of a document within the limit, it says what the step says, and leaves what the step leaves.
module _ (d : List ℕ) (s : State) (h : length d ≤ 16777216) (e : fit (length d) s ≡ true) where
  abbrev inner : Part
  inner = inner_of s.indents s.depth

  pub is-near : near (length d) (front_of s) inner ≡ true
  unfolding near
  is-near =
      let b = rw (fit_parts (length d) s) at e in
      let f = and_left (front_fit (length d) (front_of s)) _ b in
      rw (f, inner-fit (length d) s.indents s.depth (fitness (length d) s e).opens)

  -- it refuses by no more than 3
  pub step-number : (values_of (step_of d s).answer).number ≤ 259
  step-number = rw (ruled d s h e) (ruled-number d s)

  pub step-said : (advanced_of d (front_of s) inner).said ≡ said_by (values_of (step_of d s).answer)
  unfolding advance_rule advance_with step_rule step_with plan_with
  step-said = rw (advances d (front_of s) inner h is-near, ruled d s h e)

  pub step-front : (advanced_of d (front_of s) inner).front ≡ front_of (step_of d s).state
  unfolding advance_rule advance_with step_rule step_with plan_with after_plan
  step-front = rw (advances d (front_of s) inner h is-near, ruled d s h e)

  pub step-indents : (step_of d s).state.indents
      ≡ indents_after (advanced_of d (front_of s) inner).change (advanced_of d (front_of s) inner).indent s.indents s.depth
  unfolding advance_rule advance_with step_rule step_with plan_with after_plan
  step-indents = rw (advances d (front_of s) inner h is-near, ruled d s h e)

  pub step-depth : depth_after (advanced_of d (front_of s) inner).change s.depth ≡ (step_of d s).state.depth
  unfolding advance_rule advance_with step_rule step_with plan_with after_plan
  step-depth = rw (advances d (front_of s) inner h is-near, ruled d s h e)

  -- and so the whole step
  pub step-state : state_by s (advanced_of d (front_of s) inner) ≡ (step_of d s).state
  unfolding advance_rule advance_with step_rule step_with plan_with after_plan state_by
  step-state = rw (advances d (front_of s) inner h is-near, ruled d s h e)

  pub steps : Path (Step State) (record { answer = answer_by (advanced_of d (front_of s) inner).said; state = state_by s (advanced_of d (front_of s) inner) }) (step_of d s)
  steps =
      let a = ap answer_by step-said ∙ back (step_of d s).answer in
      λ j. record { answer = a j; state = step-state j }
