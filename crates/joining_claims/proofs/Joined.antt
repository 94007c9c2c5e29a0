-- Demand 3 for the tokenizer's lists, proved. The reading of P then S goes along with P's own: through the same states up to P's
-- end, and there through waiting ones, with the same answers. Where P's own reading ends, S's begins, raised.
use Rattle.std.specs.Prelude.{Some, None, Ok, Err}
use Rattle.tokenizer.specs.Token.{Answer}
use Prim.Native.Nat.{ℕ, ◌+◌, ◌≤◌}
use mathlib.Core.Path.{◌≡◌, refl, sym, ap, ◌∙◌}
use mathlib.Core.List.{List, [], ◌∷◌, ◌++◌, append-nil}
use mathlib.Core.Bool.{true, false, false≢true}
use native.Mathlib.Nat.{add-zero}
use native.Mathlib.Omega.{arith}
use lib.ListN.{length, length-drop, length-append}
use lib.Seq.{drop-append_seam}
use Rattle.text.specs.declared.bytes.Part.{Part}
use Rattle.tokenizer_scans.specs.Scans.{breaks_after, breaks}
use Rattle.tokenizer_rules.specs.Plan.{plan_outdent}
use Rattle.tokenizer.specs.Step.{size_of, after_plan, step_with, step_rule, step_of, fresh}
use Rattle.tokenizer.specs.Lists.{is_end, Reads, ends, says, run, tokens}
use Rattle.tokenizer.specs.declared.token.Token.TheVariants as token
use Rattle.tokenizer.specs.declared.state.State.{State}
use Rattle.tokenizer_rules.proofs.PlanCases.{plan_close}
use Rattle.tokenizer.proofs.Bounds.{rest-size}
use Rattle.tokenizer_claims.proofs.Sound.{rest_of, indent_at, plan_of, answer_at, step-cases, Sound, fresh-sound, step-sound}
use Rattle.tokenizer_claims.proofs.Answers.{Vouched, plan-vouches}
use Rattle.tokenizer_claims.proofs.Readings.{more, reads-one}
use Rattle.tokenizer_claims.proofs.Claimed.{sound-kept}
use Rattle.tokenizer_claims.proofs.Claimed as claimed
use Rattle.joining_claims.specs.Raising.{raised}
use Rattle.joining_claims.specs.Tokens.{Closed, TokensJoined}
use Rattle.joining_claims.proofs.Inline.{Ended, closed-ended, closed-drop, line-lt, blanks-inline}
use Rattle.joining_claims.proofs.Values.{Top, top}
use Rattle.joining_claims.proofs.Prefix.{step_same}
use Rattle.joining_claims.proofs.Course.{Course, fresh-course, course-after}
use Rattle.joining_claims.proofs.Higher.{HigherStep, reads-raised}
use Rattle.joining_claims.proofs.HandOver.{top-blanks, Waits, after_closing, first_step, closing-step}
use Rattle.tokenizer.specs.declared.state.Step.{Step}

by-nil : {G : Type 0} (r : List ℕ) → (r ≡ [] → G) → ((r ≡ [] → ⊥) → G) → G
by-nil [] f g = f refl
by-nil (b ∷ r) f g = g (λ e. cc)

-- before P's end no step says End: more than blanks is left
speaks : (p : List ℕ) (x : State) → Sound p x → Ended (rest_of p x) → is_end (step_rule p x).answer ≡ false
unfolding step_rule step_with is_end
speaks p x f e = said (answer_at p x (plan_of p x).says) (plan-vouches p x f)
  where
    said : (a : Answer) → Vouched p x a → is_end a ≡ false
    said None v = absurd (omega (arith, blanks-inline.within (rest_of p x), line-lt (rest_of p x) e))
    said (Some (Ok k)) v = refl
    said (Some (Err e)) v = refl

-- x, a state of P's own reading, and y, of the reading of P then S
module _ (p : List ℕ) (s : ℕ) (t : List ℕ) where
  record Along (x y : State) : Type 0 where
    before : (rest_of p x ≡ [] → ⊥) → y ≡ x
    after : rest_of p x ≡ [] → Waits p s t x y

  -- their steps: P's own reading ends and S's begins, or both give one more answer
  data Onward (a b : Step State) : Type 0 where
    over : a.answer ≡ None → HigherStep (breaks p) (length p) (step_rule (s ∷ t) fresh) b → Onward a b
    goes : is_end a.answer ≡ false → b.answer ≡ a.answer → Along a.state b.state → Onward a b

module _ (p : List ℕ) (closed : Closed p) (s : ℕ) (t : List ℕ) (o : Top s) where
  end_line : (x : State) → Course p x → rest_of p x ≡ [] → x.line ≡ breaks p + 1
  unfolding breaks_after
  end_line x c e = let l : x.line + 0 ≡ 1 + breaks p = rw e at c.line in omega arith

  -- P's end is reached
  reached : (x : State) → Course p x → rest_of p x ≡ [] → Waits p s t x x
  reached x c e =
      let z : length (rest_of p x) ≡ 0 = ap length e in
      let n : x.place ≡ length p = omega (arith, length-drop x.place p, c.sound.place) in
      record {
        place = n;
        line = end_line x c e;
        indents = refl;
        depth = refl;
        indent = (c.idle e).0;
        value = c.still (c.idle e).0;
        empty = rw ((c.idle e).1, n, drop-append_seam p (s ∷ t), top-blanks s t o, add-zero (length p));
        size = rw ((c.idle e).1, n, drop-append_seam p (s ∷ t)) (top-blanks s t o);
      }

  alone : (x : State) → Course p x → Along p s t x x
  alone x c = record { before = λ n. refl; after = reached x c }

  module _ (x y : State) (c : Course p x) (f : Sound (p ++ s ∷ t) y) where
    -- before P's end
    passes : (rest_of p x ≡ [] → ⊥) → y ≡ x → Onward p s t (step_rule p x) (step_rule (p ++ s ∷ t) y)
    unfolding step_rule step_with
    passes n q =
        let e = closed-ended (rest_of p x) (closed-drop true x.place p closed) n in
        rw (q, step_same s t o p x c.sound e)
        (goes (speaks p x c.sound e) refl (alone _ (course-after p x closed c)))

    -- a section is closed
    closes : rest_of p x ≡ [] → Waits p s t x y → (i : Part)
        → Along p s t (after_plan x i (plan_close x.marks)) (after_closing p y)
    unfolding after_plan plan_outdent
    closes e w i = record {
      before = λ n. absurd (n (rw add-zero e));
      after = λ z. record {
        place = rw add-zero w.place;
        line = rw add-zero w.line;
        indents = w.indents;
        depth = rw w.depth;
        indent = refl;
        value = w.value;
        empty = refl;
        size = refl;
      };
    }

    -- at P's end
    stands : rest_of p x ≡ [] → Waits p s t x y → Onward p s t (step_rule p x) (step_rule (p ++ s ∷ t) y)
    unfolding step_rule step_with is_end
    stands e w =
        step-cases p x (λ k. Onward p s t (record { answer = answer_at p x k.says; state = after_plan x (indent_at p x) k }) (step_rule (p ++ s ∷ t) y))
        (record {
          ends = λ q n. over refl (first_step p s t o x y w c (w.depth ∙ omega arith));
          closes = λ q n.
              rw (closing-step p s t o x y w c f (omega (arith, w.depth)))
              (goes refl (ap (λ l. Some (Ok (token.Outdent l 0))) (w.line ∙ sym (end_line x c e))) (closes e w (indent_at p x)));
          line = λ b r q.
              let z : length (rest_of p x) ≡ 0 = ap length e in
              absurd (omega (arith, rest-size (size_of x.held (rest_of p x)) (rest_of p x) b r q));
        })

  onward : (x y : State) → Course p x → Sound (p ++ s ∷ t) y → Along p s t x y → Onward p s t (step_rule p x) (step_rule (p ++ s ∷ t) y)
  onward x y c f a = by-nil (rest_of p x) (λ e. stands x y c f e (a.after e)) (λ n. passes x y c f n (a.before n))

-- The readings

module _ {p : List ℕ} {s : ℕ} {t : List ℕ} where
  ended-on : {a b : Step State} → a.answer ≡ None → Onward p s t a b → HigherStep (breaks p) (length p) (step_rule (s ∷ t) fresh) b
  unfolding is_end
  ended-on e (over f h) = h
  ended-on e (goes n f a) = absurd (false≢true (sym n ∙ ap is_end e))

  said-on : {a : Answer} {z : State} {b : Step State} → is_end a ≡ false → Onward p s t (record { answer = a; state = z }) b
      → (b.answer ≡ a) × Along p s t z b.state
  unfolding is_end
  said-on n (over e h) = absurd (false≢true (sym n ∙ ap is_end e))
  said-on n (goes m e a) = (e, a)

pub left_le : (p s : List ℕ) → length (p ++ s) ≤ 16777216 → length p ≤ 16777216
left_le p s h = omega (arith, length-append p s)

pub right_le : (p s : List ℕ) → length (p ++ s) ≤ 16777216 → length s ≤ 16777216
right_le p s h = omega (arith, length-append p s)

module _ (p : List ℕ) (closed : Closed p) (s : ℕ) (t : List ℕ) (o : Top s) (h : length (p ++ s ∷ t) ≤ 16777216) {us : List Answer} {w : State}
    (own : Reads (s ∷ t) fresh us w) where
  course-kept : (x : State) → Course p x → Course p (step_of p x).state
  unfolding step_rule step_with
  course-kept x c = rw (step-sound p x (left_le p (s ∷ t) h) c.sound) (course-after p x closed c)

  onward-of : (x y : State) → Course p x → Sound (p ++ s ∷ t) y → Along p s t x y → Onward p s t (step_of p x) (step_of (p ++ s ∷ t) y)
  onward-of x y c f a = rw (step-sound p x (left_le p (s ∷ t) h) c.sound, step-sound (p ++ s ∷ t) y h f) (onward p closed s t o x y c f a)

  joins : {x u : State} {as₁ : List Answer} → Reads p x as₁ u → (y : State) → Course p x → Sound (p ++ s ∷ t) y → Along p s t x y
      → (v : State) × Reads (p ++ s ∷ t) y (as₁ ++ raised (breaks p) (length p) us) v
  joins (ends {s = x} e) y c f a =
      let l = right_le p (s ∷ t) h in
      let o = fresh-sound (s ∷ t) in
      reads-raised p (s ∷ t) h l own y o f (rw (step-sound (s ∷ t) fresh l o) (ended-on e (onward-of x y c f a)))
  joins (says {s = x} q n r) y c f a =
      let k = said-on n (rw q at (onward-of x y c f a)) in
      more (p ++ s ∷ t) y k.0 n (joins r (step_of (p ++ s ∷ t) y).state (rw q at (course-kept x c)) (sound-kept (p ++ s ∷ t) h y f) k.1)

pub tokens-joined : TokensJoined
unfolding tokens run
tokens-joined p [] c q h = rw (append-nil p, append-nil (tokens p))
tokens-joined p (s ∷ t) c q h =
    let d = p ++ s ∷ t in
    let o = top s t q in
    let a = (claimed.ends p (left_le p (s ∷ t) h)).reads in
    let b = (claimed.ends (s ∷ t) (right_le p (s ∷ t) h)).reads in
    let r = joins p c s t o h b a fresh (fresh-course p) (fresh-sound d) (alone p c s t o fresh (fresh-course p)) in
    reads-one (claimed.ends d h).reads r.1
