-- The states of a fresh reading: fit, and every indentation in them a part of blanks. A plan keeps to such states where it
-- keeps to the rest and opens no 65th section.
use Rattle.tokenizer.specs.Token.{Answer}
use Rattle.std.specs.Prelude.{Option, Some, None}
use Prim.Native.Nat.{ℕ, zero, suc, ◌+◌, ◌≤◌, ◌<◌}
use mathlib.Core.Path.{◌≡◌, refl}
use mathlib.Core.List.{List, [], ◌∷◌}
use mathlib.Core.Bool.{true}
use native.Mathlib.Omega.{arith}
use lib.ListN.{length, drop, get_or, set, replicate, length-drop}
use borrow.Author.Tests.{le-ltb}
use Rattle.text.specs.declared.bytes.Part.{Part}
use Rattle.tokenizer.specs.Step.{bytes_of, no_part, indent_of, size_of, inner_of, indents_after, held_after, answer_of, plan_with, after_plan, step_rule, fit_held, fit_open, fit, step_of, fresh}
use Rattle.tokenizer_rules.specs.declared.plan.Change.{Change}
use Rattle.tokenizer_rules.specs.declared.plan.Change.TheVariants.{Keep, Open, Close, Hold}
use Rattle.tokenizer_rules.specs.declared.plan.Plan.{Plan}
use Rattle.tokenizer_rules.specs.declared.plan.Says.{Says}
use Rattle.tokenizer.specs.declared.state.State.{State}
use Rattle.tokenizer_rules.proofs.PlanCases.{Cases, plan-cases}
use Rattle.tokenizer.proofs.Bounds.{Bounded, plan-bounded}
use Rattle.tokenizer.proofs.Fitness.{is-fit, part-fit}
use Rattle.tokenizer_claims.proofs.Texts.{Indentation, no-indentation, indentation-at}

-- what is left of the document, the indentation that the step reads or finds held, its plan, and its answer where it says x
abbrev pub rest_of : List ℕ → State → List ℕ
rest_of d s = drop s.place d

abbrev pub indent_at : List ℕ → State → Part
indent_at d s = indent_of s.held s.place (rest_of d s)

abbrev pub plan_of : List ℕ → State → Plan
plan_of d s = plan_with d s (indent_at d s) (size_of s.held (rest_of d s))

abbrev pub answer_at : List ℕ → State → Says → Answer
answer_at d s x = answer_of x s.line s.place (indent_at d s)

-- what holds of every leaf, as in PlanCases, holds of the plan
abbrev pub StepCases : List ℕ → State → (Plan → Type 0) → Type 0
StepCases d s G =
    let k = size_of s.held (rest_of d s) in
    Cases s.marks s.depth (bytes_of d (inner_of s.indents s.depth)) (bytes_of d (indent_at d s)) (rest_of d s) k (drop k (rest_of d s)) G

pub step-cases : (d : List ℕ) (s : State) (G : Plan → Type 0) → StepCases d s G → G (plan_of d s)
unfolding plan_with
step-cases d s G c = plan-cases _ _ _ _ _ _ G c

pub step-bounded : (d : List ℕ) (s : State) → Bounded (length (rest_of d s)) s.depth (plan_of d s)
unfolding plan_with
step-bounded d s = plan-bounded _ _ _ _ _ _

abbrev pub HeldSound : List ℕ → Option Part → Type 0
HeldSound d None = Unit {0}
HeldSound d (Some p) = Indentation d p

pub record Sound (d : List ℕ) (s : State) : Type 0 where
  pub place : s.place ≤ length d
  pub first : 0 < s.line
  pub line : s.line ≤ s.place + 1
  pub depth : s.depth ≤ 64
  pub held : HeldSound d s.held
  pub indents : (j : ℕ) → Indentation d (get_or s.indents j no_part)

pub fresh-sound : (d : List ℕ) → Sound d fresh
unfolding fresh
fresh-sound d = record {
  place = omega arith;
  first = omega arith;
  line = omega arith;
  depth = omega arith;
  held = tt;
  indents = none 64;
}
  where
    none : (n j : ℕ) → Indentation d (get_or (replicate n no_part) j no_part)
    none zero j = no-indentation d
    none (suc n) zero = no-indentation d
    none (suc n) (suc j) = none n j

-- A sound state is fit

held-fit : (d : List ℕ) (h : Option Part) → HeldSound d h → fit_held (length d) h ≡ true
held-fit d None x = refl
held-fit d (Some p) x = part-fit (length d) p x.within.starts x.within.ends

open-fit : (d : List ℕ) (is : List Part) → ((j : ℕ) → Indentation d (get_or is j no_part)) → (n : ℕ) → fit_open (length d) is n ≡ true
unfolding fit_open
open-fit d is x zero = refl
open-fit d is x (suc n) = rw (held-fit d (Some (get_or is n no_part)) (x n), open-fit d is x n)

pub sound-fit : (d : List ℕ) (s : State) → Sound d s → fit (length d) s ≡ true
sound-fit d s o =
    is-fit (length d) s
    (record {
      place = o.place;
      line_low = o.first;
      line-high = o.line;
      held = held-fit d s.held o.held;
      depth = o.depth;
      opens = open-fit d s.indents o.indents s.depth;
    })

-- so its step is that of the rules
pub step-sound : (d : List ℕ) (s : State) → length d ≤ 16777216 → Sound d s → step_of d s ≡ step_rule d s
unfolding step_of
step-sound d s l o = rw (le-ltb 16777216 (length d) l, sound-fit d s o)

-- A plan keeps a state sound

pub indent-sound : (d : List ℕ) (s : State) → Sound d s → Indentation d (indent_at d s)
indent-sound d s o = at s.held o.held
  where
    at : (h : Option Part) → HeldSound d h → Indentation d (indent_of h s.place (rest_of d s))
    at None x = indentation-at d s.place o.place
    at (Some p) x = x

held_after-sound : (d : List ℕ) (c : Change) (i : Part) → Indentation d i → HeldSound d (held_after c i)
held_after-sound d Keep i x = tt
held_after-sound d Open i x = tt
held_after-sound d Close i x = tt
held_after-sound d Hold i x = x

-- also where n is past the end, and nothing is set
set_all : (G : Part → Type 0) (i : Part) → G i → (is : List Part) (n : ℕ) → ((j : ℕ) → G (get_or is j no_part))
    → (j : ℕ) → G (get_or (set is n i) j no_part)
set_all G i x [] n h j = h j
set_all G i x (p ∷ is) zero h zero = x
set_all G i x (p ∷ is) zero h (suc j) = h (suc j)
set_all G i x (p ∷ is) (suc n) h zero = h 0
set_all G i x (p ∷ is) (suc n) h (suc j) = set_all G i x is n (λ j. h (suc j)) j

indents-after : (d : List ℕ) (c : Change) (i : Part) (is : List Part) (n : ℕ) → Indentation d i
    → ((j : ℕ) → Indentation d (get_or is j no_part)) → (j : ℕ) → Indentation d (get_or (indents_after c i is n) j no_part)
indents-after d Keep i is n x h = h
indents-after d Open i is n x h = set_all (Indentation d) i x is n h
indents-after d Close i is n x h = h
indents-after d Hold i is n x h = h

pub after-sound : (d : List ℕ) (s : State) (p : Plan) → Sound d s → Bounded (length (rest_of d s)) s.depth p
    → Sound d (after_plan s (indent_at d s) p)
unfolding after_plan
after-sound d s p o b = record {
  place = omega (arith, o.place, b.pass, length-drop s.place d);
  first = omega (arith, o.first);
  line = omega (arith, o.line, b.lines);
  depth = b.sections o.depth;
  held = held_after-sound d p.change (indent_at d s) (indent-sound d s o);
  indents = indents-after d p.change (indent_at d s) s.indents s.depth (indent-sound d s o) o.indents;
}
