-- What a step keeps: a fit state of a document within the limit stays fit, so that neither 12 nor 15 comes after a step that
-- was neither.
use Rattle.std.specs.Prelude.{Option, Some, None}
use Prim.Native.Nat.{ℕ, zero, suc, ◌+◌, ◌-◌, ◌≤◌}
use mathlib.Core.Path.{◌≡◌, refl}
use mathlib.Core.List.{List, [], ◌∷◌}
use mathlib.Core.Bool.{true}
use native.Mathlib.Numerals.{add-one, sub-one}
use native.Mathlib.Omega.{arith}
use lib.ListN.{length, drop, get_or, set, length-drop}
use lib.Seq.{get_or-set_other}
use Rattle.text.specs.Trimming.{dropped}
use Rattle.text.specs.declared.bytes.Part.{Part}
use Rattle.text.specs.declared.trimming.Dropped.TheVariants.{Blanks}
use Rattle.text.proofs.Cases.{and_right}
use Rattle.std.proofs.lemmas.List.Sums.{prefix_len-le-length}
use Rattle.tokenizer_scans.specs.Scans.{blanks}
use Rattle.tokenizer.specs.Step.{
  no_part,
  indent_of,
  indents_after,
  depth_after,
  held_after,
  plan_with,
  after_plan,
  step_with,
  step_rule,
  fit_part,
  fit_held,
  fit_open,
  fit,
  step_of,
}
use Rattle.tokenizer_rules.specs.declared.plan.Change.{Change}
use Rattle.tokenizer_rules.specs.declared.plan.Change.TheVariants.{Keep, Open, Close, Hold}
use Rattle.tokenizer_rules.specs.declared.plan.Plan.{Plan}
use Rattle.tokenizer.specs.declared.state.State.{State}
use Rattle.tokenizer.proofs.Bounds.{Bounded, plan-bounded}
use Rattle.tokenizer.proofs.Fitness.{Fitness, fitness, is-fit, part-fit}
use Rattle.tokenizer.proofs.Steps.{ruled}

module _ (n : ℕ) where
  -- the slot that is set: it holds the indentation, or is past the end and reads as the empty one
  set-fit : (is : List Part) (k : ℕ) (i : Part) → fit_part n i ≡ true → fit_part n (get_or (set is k i) k no_part) ≡ true
  set-fit [] k i e = part-fit n no_part (omega arith) (omega arith)
  set-fit (p ∷ is) zero i e = e
  set-fit (p ∷ is) (suc k) i e = set-fit is k i e

  -- a slot that is not among the open ones does not count
  open-other : (is : List Part) (j : ℕ) (i : Part) (k : ℕ) → k ≤ j → fit_open n (set is j i) k ≡ fit_open n is k
  unfolding fit_open
  open-other is j i zero h = refl
  open-other is j i (suc k) h = rw (get_or-set_other is j k i no_part (λ e. omega arith), open-other is j i k (omega arith))

  open-less : (is : List Part) (k : ℕ) → fit_open n is k ≡ true → fit_open n is (k - 1) ≡ true
  unfolding fit_open
  open-less is zero e = e
  open-less is (suc k) e = rw sub-one (and_right (fit_part n (get_or is k no_part)) _ e)

  held_after-fit : (c : Change) (i : Part) → fit_part n i ≡ true → fit_held n (held_after c i) ≡ true
  held_after-fit Keep i e = refl
  held_after-fit Open i e = refl
  held_after-fit Close i e = refl
  held_after-fit Hold i e = e

  open_after : (c : Change) (i : Part) (is : List Part) (k : ℕ) → fit_part n i ≡ true → fit_open n is k ≡ true
      → fit_open n (indents_after c i is k) (depth_after c k) ≡ true
  unfolding fit_open
  open_after Keep i is k e f = f
  open_after Open i is k e f = rw (add-one, set-fit is k i e, open-other is k i k (omega arith), f)
  open_after Close i is k e f = open-less is k f
  open_after Hold i is k e f = open-less is k f

-- the step's indentation fits
pub indent-fit : (d : List ℕ) (place : ℕ) (h : Option Part) → place ≤ length d → fit_held (length d) h ≡ true
    → fit_part (length d) (indent_of h place (drop place d)) ≡ true
unfolding blanks
indent-fit d place None e q =
    let r = drop place d in
    part-fit (length d) (record { start = place; end = place + blanks r }) (omega arith)
    (omega (arith, e, prefix_len-le-length (dropped Blanks) r, length-drop place d))
indent-fit d place (Some p) e q = q

module _ (d : List ℕ) (s : State) where
  after-fit : (i : Part) (p : Plan) → Fitness (length d) s → fit_part (length d) i ≡ true → Bounded (length (drop s.place d)) s.depth p
      → Fitness (length d) (after_plan s i p)
  unfolding after_plan
  after-fit i p f e b = record {
    place = omega (arith, f.place, b.pass, length-drop s.place d);
    line_low = omega (arith, f.line_low);
    line-high = omega (arith, f.line-high, b.lines);
    held = held_after-fit (length d) p.change i e;
    depth = b.sections f.depth;
    opens = open_after (length d) p.change i s.indents s.depth e f.opens;
  }

  pub step-fit : length d ≤ 16777216 → fit (length d) s ≡ true → fit (length d) (step_of d s).state ≡ true
  unfolding step_rule step_with plan_with
  step-fit l e =
      let f = fitness (length d) s e in
      rw (ruled d s l e) (is-fit (length d) _ (after-fit _ _ f (indent-fit d s.place s.held f.place f.held) (plan-bounded _ _ _ _ _ _)))
