-- Raising is free, since a plan knows neither place nor line: a state of the reading of P then S that stands where a state of S's
-- own reading stands, but P's bytes and breaks higher, takes the same step, and what it answers is raised. The places in the
-- arrays of open indentations beyond the open ones do not matter, and differ.
use Rattle.std.specs.Prelude.{Some, None, Ok, Err, Option}
use Rattle.tokenizer.specs.Token.{Answer}
use Prim.Native.Nat.{ℕ, zero, suc, ◌+◌, ◌-◌, ◌≤◌}
use mathlib.Core.Path.{◌≡◌, refl, ap, ◌∙◌}
use mathlib.Core.List.{List, ◌++◌}
use native.Mathlib.Nat.{add_assoc}
use native.Mathlib.Omega.{arith}
use lib.ListN.{length, get_or}
use lib.Seq.{drop-append-add}
use Rattle.text.specs.Bytes.{shifted_by}
use Rattle.text.specs.declared.bytes.Part.{Part}
use Rattle.tokenizer_scans.specs.Scans.{blanks, breaks}
use Rattle.tokenizer.specs.Step.{bytes_of, no_part, indent_of, size_of, inner_of, held_after, depth_after, answer_of, plan_with, after_plan, step_with, step_rule, step_of}
use Rattle.tokenizer.specs.Lists.{is_end, Reads, ends, says}
use Rattle.tokenizer_rules.specs.declared.plan.Change.{Change}
use Rattle.tokenizer_rules.specs.declared.plan.Change.TheVariants.{Keep, Open, Close, Hold}
use Rattle.tokenizer_rules.specs.declared.plan.Plan.{Plan}
use Rattle.tokenizer_rules.specs.declared.plan.Says.{Says}
use Rattle.tokenizer_rules.specs.declared.plan.Says.TheVariants.{
  End,
  Newline,
  Comment,
  Indent,
  Outdent,
  ListItem,
  MapKey,
  Value,
  MultilineHint,
  MultilineValue,
  Refused,
}
use Rattle.tokenizer.specs.declared.state.State.{State}
use Rattle.tokenizer.proofs.Bounds.{plan-bounded}
use Rattle.tokenizer_claims.proofs.Sound.{rest_of, indent_at, Sound, step-sound}
use Rattle.tokenizer_claims.proofs.Readings.{more}
use Rattle.tokenizer_claims.proofs.Claimed.{sound-kept}
use Rattle.joining_claims.specs.Raising.{raise_token, raise, raised}
use Rattle.joining_claims.proofs.Sections.{Pairs, Opening, room_after, pairs-after}
use Rattle.tokenizer.specs.declared.state.Step.{Step}

-- l lines and n bytes higher

abbrev pub RaisedPart : ℕ → Part → Part → Type 0
RaisedPart n i j = j ≡ shifted_by n i

abbrev raise_held : ℕ → Option Part → Option Part
raise_held n None = None
raise_held n (Some i) = Some (shifted_by n i)

module _ (l n : ℕ) where
  -- y above x, in all that the next state takes over beside the plan
  pub record Above (x y : State) : Type 0 where
    pub place : y.place ≡ n + x.place
    pub line : y.line ≡ l + x.line
    pub depth : y.depth ≡ x.depth
    pub low-room : length x.indents ≡ 64
    pub room : length y.indents ≡ 64
    pub indents : Pairs (RaisedPart n) x.indents y.indents x.depth

  -- and with the same plan
  pub record Higher (x y : State) : Type 0 where
    pub above : Above x y
    pub marks : y.marks ≡ x.marks
    pub held : y.held ≡ raise_held n x.held

  -- a step whose answer is raised, to a higher state
  pub record HigherStep (a b : Step State) : Type 0 where
    pub answer : b.answer ≡ raise l n a.answer
    pub state : Higher a.state b.state

  answer-raised : (a : Says) (m k : ℕ) (i : Part) → answer_of a (l + m) (n + k) (shifted_by n i) ≡ raise l n (answer_of a m k i)
  unfolding raise raise_token
  answer-raised End m k i = refl
  answer-raised Newline m k i = refl
  answer-raised (Comment p) m k i = rw (add_assoc n k p.start, add_assoc n k p.end)
  answer-raised Indent m k i = refl
  answer-raised Outdent m k i = refl
  answer-raised ListItem m k i = refl
  answer-raised (MapKey p) m k i = rw (add_assoc n k p.start, add_assoc n k p.end)
  answer-raised (Value p) m k i = rw (add_assoc n k p.start, add_assoc n k p.end)
  answer-raised (MultilineHint p) m k i = rw (add_assoc n k p.start, add_assoc n k p.end)
  answer-raised (MultilineValue p) m k i = rw (add_assoc n k p.start, add_assoc n k p.end)
  answer-raised (Refused r) m k i = refl

  held-raised : (c : Change) (i : Part) → held_after c (shifted_by n i) ≡ raise_held n (held_after c i)
  held-raised Keep i = refl
  held-raised Open i = refl
  held-raised Close i = refl
  held-raised Hold i = refl

  always : (c : Change) {G : Type 0} → G → Opening c G
  always Keep g = tt
  always Open g = g
  always Close g = tt
  always Hold g = tt

  -- the same plan, in states one above the other
  plan-raised : (x y : State) → Above x y → (i : Part) (c : Plan) → depth_after c.change x.depth ≤ 64
      → Higher (after_plan x i c) (after_plan y (shifted_by n i) c)
  unfolding after_plan
  plan-raised x y a i c h = record {
    above = record {
      place = rw a.place (add_assoc n x.place c.pass);
      line = rw a.line (add_assoc l x.line c.lines);
      depth = rw a.depth;
      low-room = room_after c.change i x.indents x.depth ∙ a.low-room;
      room = room_after c.change (shifted_by n i) y.indents y.depth ∙ a.room;
      indents =
          rw a.depth
          (pairs-after (RaisedPart n) i (shifted_by n i) x.indents y.indents x.depth c.change (rw a.low-room h) (rw a.room h)
          (always c.change refl) a.indents);
    };
    marks = refl;
    held = held-raised c.change i;
  }

-- The step

module _ (p s : List ℕ) where
  pub bytes-raised : (i : Part) → bytes_of (p ++ s) (shifted_by (length p) i) ≡ bytes_of s i
  bytes-raised i =
      let e : length p + i.end - (length p + i.start) ≡ i.end - i.start = omega arith in
      rw (e, drop-append-add p s i.start)

  inner-raised : (is js : List Part) (k : ℕ) → Pairs (RaisedPart (length p)) is js k → bytes_of (p ++ s) (inner_of js k) ≡ bytes_of s (inner_of is k)
  inner-raised is js zero o = refl
  inner-raised is js (suc k) o = rw (o k (omega arith)) (bytes-raised (get_or is k no_part))

  indent-raised : (h : Option Part) (k : ℕ) (r : List ℕ) → indent_of (raise_held (length p) h) (length p + k) r ≡ shifted_by (length p) (indent_of h k r)
  indent-raised None k r = rw (add_assoc (length p) k (blanks r))
  indent-raised (Some i) k r = refl

  size-raised : (h : Option Part) (r : List ℕ) → size_of (raise_held (length p) h) r ≡ size_of h r
  size-raised None r = refl
  size-raised (Some i) r = refl

  module _ (x y : State) where
    -- two steps of the same plan
    pub with-raised : Above (breaks p) (length p) x y → (i : Part) (k : ℕ) → plan_with (p ++ s) y (shifted_by (length p) i) k ≡ plan_with s x i k
        → x.depth ≤ 64 → HigherStep (breaks p) (length p) (step_with s x i k) (step_with (p ++ s) y (shifted_by (length p) i) k)
    unfolding step_with plan_with
    with-raised a i k e d = record {
      answer = rw (e, a.line, a.place) (answer-raised (breaks p) (length p) (plan_with s x i k).says x.line x.place i);
      state = rw e (plan-raised (breaks p) (length p) x y a i (plan_with s x i k) ((plan-bounded _ _ _ _ _ k).sections d));
    }

    rule-raised : Sound s x → Higher (breaks p) (length p) x y → HigherStep (breaks p) (length p) (step_rule s x) (step_rule (p ++ s) y)
    unfolding step_rule plan_with
    rule-raised o h =
        let a = h.above in
        let r : rest_of (p ++ s) y ≡ rest_of s x = rw a.place (drop-append-add p s x.place) in
        let i : indent_at (p ++ s) y ≡ shifted_by (length p) (indent_at s x) = rw (r, h.held, a.place) (indent-raised x.held x.place (rest_of s x)) in
        let k : size_of y.held (rest_of (p ++ s) y) ≡ size_of x.held (rest_of s x) = rw (r, h.held) (size-raised x.held (rest_of s x)) in
        rw (i, k)
        (with-raised a (indent_at s x) (size_of x.held (rest_of s x))
        (rw (h.marks, a.depth, inner-raised x.indents y.indents x.depth a.indents, bytes-raised (indent_at s x), r))
        o.depth)

-- The reading

end-raised : (l n : ℕ) (a : Answer) → is_end (raise l n a) ≡ is_end a
unfolding raise is_end
end-raised l n None = refl
end-raised l n (Some (Ok t)) = refl
end-raised l n (Some (Err e)) = refl

module _ (p s : List ℕ) (h : length (p ++ s) ≤ 16777216) (k : length s ≤ 16777216) where
  -- from a step that is higher
  pub reads-raised : {x u : State} {as₁ : List Answer} → Reads s x as₁ u → (y : State) → Sound s x → Sound (p ++ s) y
      → HigherStep (breaks p) (length p) (step_of s x) (step_of (p ++ s) y) → (v : State) × Reads (p ++ s) y (raised (breaks p) (length p) as₁) v
  unfolding raise
  reads-raised (ends e) y o q b = (y, ends (b.answer ∙ ap (raise (breaks p) (length p)) e))
  reads-raised (says {s = x} {t = z} {a = a} e f r) y o q b =
      let t = (step_of (p ++ s) y).state in
      let o' : Sound s z = rw e at (sound-kept s k x o) in
      let q' = sound-kept (p ++ s) h y q in
      let c = rule-raised p s z t o' (rw e at b.state) in
      more (p ++ s) y
      (b.answer ∙ ap (λ (m : Step State). raise (breaks p) (length p) m.answer) e)
      (end-raised (breaks p) (length p) a ∙ f)
      (reads-raised r t o' q' (rw (step-sound s z k o', step-sound (p ++ s) t h q') c))
