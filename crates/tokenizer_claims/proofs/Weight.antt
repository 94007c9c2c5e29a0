-- What a reading has left to spend. Each step lowers it, unless it says End, so a reading ends, after at most as many answers.
-- The held indentation counts because a step may read it again, an open section because it has to be closed, the value mark
-- because refusal 2 clears it and passes nothing, the multiline mark because it pays for the empty key before a `;`.
use Rattle.std.specs.Prelude.{Option, Some, None}
use Prim.Native.Nat.{ℕ, zero, suc, ◌+◌, ◌*◌, ◌-◌, ◌≤◌, ◌<◌}
use mathlib.Core.Path.{◌≡◌, refl, ap}
use mathlib.Core.List.{List, [], ◌∷◌}
use mathlib.Core.Bool.{Bool, true, false, ◌&&◌}
use native.Mathlib.Numerals.{one-add}
use native.Mathlib.Omega.{arith}
use lib.ListN.{length, take, drop, length-take, length-drop}
use lib.Dec.{eqb}
use borrow.Author.Tests.{not-false}
use Rattle.text.specs.Bytes.{is_break, line_end}
use Rattle.text.specs.declared.bytes.Part.{Part}
use Rattle.text.specs.declared.trimming.Dropped.TheVariants.{Blanks}
use Rattle.text.proofs.Cases.{by_bool, and_left, and_right}
use Rattle.tokenizer_scans.specs.Scans.{relation_of, stops, plain_end, quotes_end, text_end, checked_of, lines_of}
use Rattle.tokenizer_rules.specs.Plan.{plan_newline, plan_comment, plan_item, plan_key, plan_plain, with_value, hint_marks, plan_multiline, plan_outdent}
use Rattle.tokenizer.specs.Step.{bytes_of, indent_of, size_of, inner_of, after_plan}
use Rattle.tokenizer.specs.Lists.{is_end}
use Rattle.tokenizer_scans.specs.declared.readers.Relation.TheVariants.{Deeper, Other}
use Rattle.tokenizer_rules.specs.declared.plan.Marks.{Marks}
use Rattle.tokenizer_rules.specs.declared.plan.Plan.{Plan}
use Rattle.tokenizer.specs.declared.state.State.{State}
use Rattle.tokenizer_rules.proofs.PlanCases.{Content, Entry, later, first}
use Rattle.text.proofs.Front.{break-pos}
use Rattle.tokenizer.proofs.Bounds.{Bounded}
use Rattle.tokenizer_claims.proofs.Sound.{rest_of, indent_at, plan_of, answer_at, StepCases, step-cases, step-bounded, Sound}

-- a mark as a number
abbrev pub count : Bool → ℕ
count true = 1
count false = 0

abbrev pub held_size : Option Part → ℕ
held_size None = 0
held_size (Some p) = p.end - p.start

unfoldable pub weight : List ℕ → State → ℕ
weight d s =
    2 * (length d - s.place + held_size s.held) + s.depth + count s.marks.value + 2 * count s.marks.multiline

-- the indentation is held, or stands at the place
held-size : (h : Option Part) (n : ℕ) (r : List ℕ) → size_of h r + held_size h ≡ (indent_of h n r).end - (indent_of h n r).start
held-size None n r = omega arith
held-size (Some p) n r = omega arith

-- no empty indentation is deeper
pub deeper-pos : (s t : List ℕ) → relation_of s t ≡ Deeper → 1 ≤ length t
unfolding relation_of
deeper-pos s (b ∷ t) e = omega arith
deeper-pos [] [] e = absurd cc
deeper-pos (a ∷ s) [] e = absurd cc

-- where no section is open, no indentation is less deep
pub other-pos : (d : List ℕ) (is : List Part) (n : ℕ) (t : List ℕ) → relation_of (bytes_of d (inner_of is n)) t ≡ Other → 1 ≤ n
unfolding relation_of
other-pos d is (suc n) t e = omega arith
other-pos d is zero [] e = absurd cc
other-pos d is zero (b ∷ t) e = absurd cc

-- a byte that is no break
pub line_first : (b : ℕ) (r : List ℕ) → is_break b ≡ false → line_end (b ∷ r) ≡ suc (line_end r)
line_first b r e = rw (e, one-add)

-- a text that begins with what does not end it has a byte
text-pos : (also b : ℕ) (r : List ℕ) → stops also b ≡ false → 1 ≤ text_end also (b ∷ r)
unfolding text_end quotes_end plain_end
text-pos also b r e = by_bool (eqb b 34) (λ t. rw t (omega arith)) (λ t. rw (t, e) (omega arith))

-- The marks

pub count-le : (t : Bool) → count t ≤ 1
count-le true = omega arith
count-le false = omega arith

-- an entry clears the indentation mark
pub entry-late : {m n : Marks} {inner indent : List ℕ} → Entry m inner indent n → n.indent ≡ false
entry-late (later e) = e
entry-late (first e q) = refl

-- a hint leaves no value mark
hint-le : (t : Option Part) (m : Marks) → count (hint_marks t (with_value false m)).value + 2 * count (hint_marks t (with_value false m)).multiline ≤ 2
hint-le (Some p) m = omega arith
hint-le None m = omega (arith, count-le m.multiline)

entry-le : {m n : Marks} {inner indent : List ℕ} → Entry m inner indent n → count n.multiline ≤ count m.multiline
entry-le (later e) = omega arith
entry-le (first e q) = omega arith

-- where `;` begins no comment, an entry clears the multiline mark
entry_lt : {m n : Marks} {inner indent : List ℕ} → Entry m inner indent n → (m.indent && m.multiline) ≡ true
    → count n.multiline < count m.multiline
entry_lt {m} (later e) t = let i = and_left m.indent m.multiline t in absurd cc
entry_lt {m} (first e q) t = omega (arith, ap count (and_right m.indent m.multiline t))

-- a key has a byte, or stands where a multiline value was due
key-pays : {m n : Marks} {inner indent : List ℕ} (b : ℕ) (r : List ℕ) → Content m b → Entry m inner indent n → eqb b 61 ≡ false
    → count n.multiline < text_end 61 (b ∷ r) + count m.multiline
unfolding stops
key-pays {m} b r c e f =
    by_bool (eqb b 59)
    (λ t. omega (arith, entry_lt e (not-false (m.indent && m.multiline) (rw t at c.no-comment))))
    (λ t. omega (arith, entry-le e, text-pos 61 b r (rw (c.no-break, t, f))))

-- a step of the plan p leaves less to spend unless it says End
pub record Turn (d : List ℕ) (s : State) (p : Plan) : Type 0 where
  pub falls : is_end (answer_at d s p.says) ≡ false → weight d (after_plan s (indent_at d s) p) < weight d s

module _ (d : List ℕ) (s : State) (o : Sound d s) where
  turns : StepCases d s (λ p. Bounded (length (rest_of d s)) s.depth p → Turn d s p)
  unfolding weight after_plan is_end plan_newline plan_comment plan_item plan_key plan_plain plan_multiline plan_outdent lines_of
  turns =
      let z = held-size s.held s.place (rest_of d s) in
      let l = length-drop s.place d in
      let i = indent_at d s in
      let t = length-take (i.end - i.start) (drop i.start d) in
      record {
        ends = λ q n h. record { falls = λ f. absurd cc };
        closes = λ q n h. omega arith;
        line = λ b r q. record {
          newline = λ e h. omega (arith, break-pos b r e);
          comment = λ e c h. omega arith;
          multiline = λ c i q u h. omega (arith, ap count u);
          opens = λ c i q u n h. omega (arith, deeper-pos _ _ q);
          full = λ c i q u n h. omega (arith, line_first b r c.no-break);
          outdent = λ c i q h. omega (arith, other-pos d s.indents s.depth _ q);
          item = λ c e v t h. omega (arith, entry-le e);
          key = λ c e v t h. omega (arith, key-pays b r c e t);
          quotes = λ c e v t u h. omega (arith, entry-le e, ap count v);
          hint = λ {n} c e v t u h.
              let w = drop 3 (b ∷ r) in
              omega (arith, hint-le (checked_of Blanks (take (plain_end 59 w) w)) n);
          plain = λ c e v t h. omega (arith, entry-le e, ap count v);
        };
      }

pub plan-turns : (d : List ℕ) (s : State) → Sound d s → Turn d s (plan_of d s)
plan-turns d s o = step-cases d s _ (turns d s o) (step-bounded d s)
