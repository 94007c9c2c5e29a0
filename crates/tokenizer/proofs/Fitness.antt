-- What the test for an unfit state tells, and what it takes to pass it.
use Prim.Native.Nat.{ℕ, zero, suc, ◌+◌, ◌-◌, ◌≤◌, ◌<◌}
use mathlib.Core.Path.{◌≡◌, refl}
use mathlib.Core.List.{List}
use mathlib.Core.Bool.{Bool, true, ◌&&◌, and_assoc, and_comm, and-true}
use native.Mathlib.Numerals.{add-one}
use native.Mathlib.Omega.{arith}
use lib.Dec.{leb, ltb}
use lib.ListN.{length, take, get_or}
use lib.Seq.{take-suc}
use Rattle.std.specs.List.{list_all}
use Rattle.std.proofs.lemmas.List.Folds.{list_all-append}
use borrow.Author.Tests.{le-leb, lt-leb, leb-true, leb-false, lt-ltb, ltb-true}
use Rattle.text.specs.declared.bytes.Part.{Part}
use Rattle.text.proofs.Cases.{by_bool, and_left, and_right}
use Rattle.tokenizer.specs.Step.{no_part, inner_of, fit_part, fit_held, fit_open, fit}
use Rattle.tokenizer.specs.Front.{front_of, front_fit}
use Rattle.tokenizer.specs.declared.state.State.{State}
use Rattle.tokenizer.specs.declared.front.Front.{Front}

-- a front that fits a document of n bytes, test by test
pub record FrontFitness (n : ℕ) (f : Front) : Type 0 where
  pub place : f.place ≤ n
  pub line_low : 0 < f.line
  pub line-high : f.line ≤ f.place + 1
  pub held : fit_held n f.held ≡ true
  pub depth : f.depth ≤ 64

pub front-fitness : (n : ℕ) (f : Front) → front_fit n f ≡ true → FrontFitness n f
unfolding front_fit
front-fitness n f e =
    let e₁ = and_right (leb f.place n) _ e in
    let e₂ = and_right (ltb 0 f.line) _ e₁ in
    let e₃ = and_right (leb f.line (f.place + 1)) _ e₂ in
    record {
      place = leb-true f.place n (and_left (leb f.place n) _ e);
      line_low = ltb-true 0 f.line (and_left (ltb 0 f.line) _ e₁);
      line-high = leb-true f.line (f.place + 1) (and_left (leb f.line (f.place + 1)) _ e₂);
      held = and_left (fit_held n f.held) _ e₃;
      depth = leb-true f.depth 64 (and_right (fit_held n f.held) _ e₃);
    }

leb-less : (l p : ℕ) → leb (l - 1) p ≡ leb l (p + 1)
leb-less l p =
    by_bool (leb l (p + 1)) (λ e. rw (e, le-leb (l - 1) p (omega (arith, leb-true l (p + 1) e))))
    (λ e. rw (e, lt-leb (l - 1) p (omega (arith, leb-false l (p + 1) e))))

-- what the front tells, and then the open indentations
pub fit_parts : (n : ℕ) (s : State) → fit n s ≡ (front_fit n (front_of s) && fit_open n s.indents s.depth)
unfolding fit front_fit
fit_parts n s = simp and_assoc

-- as the code tests it
pub front_tests : (n : ℕ) (f : Front)
    → (leb f.place n && ltb 0 f.line && leb (f.line - 1) f.place && fit_held n f.held && leb f.depth 64) ≡ front_fit n f
unfolding front_fit
front_tests n f = rw (leb-less f.line f.place) (simp and_assoc)

-- a fit state, test by test
pub record Fitness (n : ℕ) (s : State) : Type 0 where
  pub place : s.place ≤ n
  pub line_low : 0 < s.line
  pub line-high : s.line ≤ s.place + 1
  pub held : fit_held n s.held ≡ true
  pub depth : s.depth ≤ 64
  pub opens : fit_open n s.indents s.depth ≡ true

pub fitness : (n : ℕ) (s : State) → fit n s ≡ true → Fitness n s
fitness n s e =
    let b = rw (fit_parts n s) at e in
    let f = front-fitness n (front_of s) (and_left _ (fit_open n s.indents s.depth) b) in
    record {
      place = f.place;
      line_low = f.line_low;
      line-high = f.line-high;
      held = f.held;
      depth = f.depth;
      opens = and_right (front_fit n (front_of s)) _ b;
    }

pub is-fit : (n : ℕ) (s : State) → Fitness n s → fit n s ≡ true
unfolding fit
is-fit n s f =
    rw (
      le-leb s.place n f.place,
      lt-ltb 0 s.line f.line_low,
      le-leb s.line (s.place + 1) f.line-high,
      f.held,
      le-leb s.depth 64 f.depth,
      f.opens,
    )

-- a part within the document fits
pub part-fit : (n : ℕ) (p : Part) → p.start ≤ p.end → p.end ≤ n → fit_part n p ≡ true
part-fit n p a b = rw (le-leb p.start p.end a, le-leb p.end n b)

-- the innermost open indentation fits where all do
pub inner-fit : (n : ℕ) (indents : List Part) (depth : ℕ) → fit_open n indents depth ≡ true → fit_part n (inner_of indents depth) ≡ true
unfolding fit_open
inner-fit n indents zero e = part-fit n no_part (omega arith) (omega arith)
inner-fit n indents (suc k) e = and_left (fit_part n (get_or indents k no_part)) _ e

-- one more open indentation, tested after those before it
pub open_more : (n : ℕ) (indents : List Part) (i : ℕ) {t u : Bool} → t ≡ fit_open n indents i → u ≡ fit_part n (get_or indents i no_part)
    → (t && u) ≡ fit_open n indents (i + 1)
unfolding fit_open
open_more n indents i p q = rw (p, q, add-one) (and_comm (fit_open n indents i) (fit_part n (get_or indents i no_part)))

-- all of the open indentations, tested in their order
pub all_open : (n : ℕ) (indents : List Part) (k : ℕ) → k ≤ length indents → list_all (fit_part n) (take k indents) ≡ fit_open n indents k
unfolding fit_open
all_open n indents zero h = refl
all_open n indents (suc k) h =
    rw (take-suc indents k no_part h, list_all-append, all_open n indents k (omega arith), and-true)
    (rw add-one at (open_more n indents k refl refl))
