-- What each state of P's own reading is known to be, where P ends in a break: the line counts the breaks before the place; the
-- value mark is clear where the indentation mark is set; every open indentation has a byte; and at P's end the indentation mark
-- is set and nothing is held.
use Rattle.std.specs.Prelude.{None, Option, Some}
use Prim.Native.Nat.{ℕ, ◌+◌, ◌-◌, ◌≤◌, ◌<◌}
use mathlib.Core.Path.{◌≡◌, refl, ap, ◌∙◌}
use mathlib.Core.List.{List, [], ◌∷◌}
use mathlib.Core.Bool.{Bool, true, false}
use native.Mathlib.Omega.{arith}
use lib.ListN.{length, take, drop, length-take, length-drop}
use lib.Seq.{drop-drop}
use Rattle.text.specs.Bytes.{is_break, break_size, line_end}
use Rattle.text.specs.declared.bytes.Part.{Part}
use Rattle.text.specs.declared.trimming.Dropped.TheVariants.{Blanks}
use Rattle.tokenizer_scans.specs.Scans.{plain_end, checked_of, breaks, begins_hint}
use Rattle.tokenizer_rules.specs.Plan.{hint_marks, plan_newline, plan_comment, plan_item, plan_key, plan_plain, plan_multiline, plan_outdent}
use Rattle.tokenizer.specs.Step.{bytes_of, size_of, held_after, depth_after, after_plan, fresh}
use Rattle.tokenizer_rules.specs.declared.plan.Marks.{Marks}
use Rattle.tokenizer_rules.specs.declared.plan.Change.{Change}
use Rattle.tokenizer_rules.specs.declared.plan.Change.TheVariants.{Keep, Open, Close, Hold}
use Rattle.tokenizer_rules.specs.declared.plan.Plan.{Plan}
use Rattle.tokenizer.specs.declared.state.State.{State}
use Rattle.tokenizer.proofs.Bounds.{rest-size}
use Rattle.tokenizer_claims.proofs.Weight.{deeper-pos, line_first, entry-late}
use Rattle.tokenizer_claims.proofs.Sound.{rest_of, indent_at, plan_of, StepCases, step-cases, step-bounded, Sound, fresh-sound, after-sound}
use Rattle.joining_claims.specs.Tokens.{Closed}
use Rattle.joining_claims.proofs.Inline.{
  Ended,
  closed-ended,
  closed-drop,
  line-lt,
  line-drop,
  breaks-drop,
  and_then,
  plain-inline,
  text-inline,
  eq-inline,
  starts-line,
}
use Rattle.joining_claims.proofs.Values.{newline-breaks, lines_left}
use Rattle.joining_claims.proofs.Sections.{Pairs, Opening, room_after, pairs-after}
use Rattle.joining_claims.proofs.Prefix.{size-line}

-- What a plan leaves of the rest that it was made for, indent being the bytes of its indentation

abbrev Still : Marks → Type 0
Still m = m.indent ≡ true → m.value ≡ false

record Stays (indent rest : List ℕ) (c : Plan) : Type 0 where
  line : c.lines + breaks (drop c.pass rest) ≡ breaks rest
  still : Still c.marks
  idle : drop c.pass rest ≡ [] → (c.marks.indent ≡ true) × ((i : Part) → held_after c.change i ≡ None)
  wide : Opening c.change (1 ≤ length indent)

-- one that stays in the line
in-line : (indent rest : List ℕ) (c : Plan) → Ended rest → c.lines ≡ 0 → c.pass ≤ line_end rest → Still c.marks
    → Opening c.change (1 ≤ length indent) → Stays indent rest c
in-line indent rest c e n l s w = record {
  line = omega (arith, breaks-drop c.pass rest l);
  still = s;
  idle = λ q. let z : length (drop c.pass rest) ≡ 0 = ap length q in absurd (omega (arith, length-drop c.pass rest, line-lt rest e));
  wide = w;
}

-- where the indentation mark is clear, nothing is asked of the value mark
unset : {i v : Bool} → i ≡ false → i ≡ true → v ≡ false
unset e f = absurd cc

hint-unset : (t : Option Part) (m : Marks) → m.indent ≡ false → (hint_marks t m).indent ≡ false
hint-unset (Some p) m e = e
hint-unset None m e = e

module _ (p : List ℕ) (x : State) (closed : Closed (rest_of p x)) (still : Still x.marks) (idle : rest_of p x ≡ [] → x.marks.indent ≡ true) where
  stays : StepCases p x (Stays (bytes_of p (indent_at p x)) (rest_of p x))
  unfolding plan_newline plan_comment plan_item plan_key plan_plain plan_multiline plan_outdent is_break begins_hint
  stays =
      let rest = rest_of p x in
      let indent = bytes_of p (indent_at p x) in
      let k = size_of x.held rest in
      let short = in-line indent rest in
      record {
        ends = λ q n. record { line = omega arith; still = still; idle = λ z. (idle z, λ i. refl); wide = tt };
        closes = λ q n. record { line = omega arith; still = still; idle = λ z. (idle z, λ i. refl); wide = tt };
        line = λ b r q.
            let some : rest ≡ [] → ⊥ = λ z. let n : length rest ≡ 0 = ap length z in omega (arith, rest-size k rest b r q) in
            let e = closed-ended rest closed some in
            let l : line_end rest ≡ k + line_end (b ∷ r) = rw q at (line-drop k rest (size-line x.held rest)) in
            record {
              newline = λ f. record {
                line =
                    let n : breaks (b ∷ r) ≡ breaks rest = rw q at (breaks-drop k rest (size-line x.held rest)) in
                    rw (← (drop-drop (break_size (b ∷ r)) k rest), q) (newline-breaks b r f ∙ n);
                still = λ z. refl;
                idle = λ z. (refl, λ i. refl);
                wide = tt;
              };
              comment = λ f c. short _ e refl (omega (arith, line_first b r f)) still tt;
              multiline = λ c i d u. record {
                line = lines_left indent rest closed;
                still = λ z. still i;
                idle = λ z. (refl, λ i. refl);
                wide = tt;
              };
              opens = λ c i d u n. short _ e refl (omega arith) (unset refl) (deeper-pos _ _ d);
              full = λ c i d u n. short _ e refl (omega arith) (unset refl) tt;
              outdent = λ c i d. short _ e refl (omega arith) (λ z. still i) tt;
              item = λ c n v t. short _ e refl (omega (arith, line_first b r c.no-break)) (unset (entry-late n)) tt;
              key = λ c n v t. short _ e refl (omega (arith, (and_then (text-inline 61) eq-inline).within (b ∷ r))) (unset (entry-late n)) tt;
              quotes = λ c n v h t. short _ e refl (omega arith) (unset (entry-late n)) tt;
              hint = λ c n v h t.
                  let w = drop 3 (b ∷ r) in
                  let three : 3 ≤ line_end (b ∷ r) = starts-line (34 ∷ 34 ∷ 34 ∷ []) (b ∷ r) refl h in
                  short _ e refl (omega (arith, line-drop 3 (b ∷ r) three, (plain-inline 59).within w))
                  (unset (hint-unset (checked_of Blanks (take (plain_end 59 w) w)) _ (entry-late n))) tt;
              plain = λ c n v h. short _ e refl (omega (arith, (text-inline 59).within (b ∷ r))) (unset (entry-late n)) tt;
            };
      }

-- The states

-- a part that has a byte, beside any other
abbrev pub Wide : Part → Part → Type 0
Wide i j = i.start < i.end

pub record Course (p : List ℕ) (x : State) : Type 0 where
  pub sound : Sound p x
  pub room : length x.indents ≡ 64
  pub line : x.line + breaks (rest_of p x) ≡ 1 + breaks p
  pub still : Still x.marks
  pub idle : rest_of p x ≡ [] → (x.marks.indent ≡ true) × (x.held ≡ None)
  pub wide : Pairs Wide x.indents x.indents x.depth

pub fresh-course : (p : List ℕ) → Course p fresh
unfolding fresh
fresh-course p = record {
  sound = fresh-sound p;
  room = refl;
  line = refl;
  still = λ e. refl;
  idle = λ e. (refl, refl);
  wide = λ j l. absurd (omega arith);
}

-- an opened indentation has a byte
opening-wide : (p : List ℕ) (i : Part) (c : Change) → Opening c (1 ≤ length (bytes_of p i)) → Opening c (Wide i i)
opening-wide p i Keep w = tt
opening-wide p i Open w = omega (arith, length-take (i.end - i.start) (drop i.start p))
opening-wide p i Close w = tt
opening-wide p i Hold w = tt

pub course-after : (p : List ℕ) (x : State) → Closed p → Course p x → Course p (after_plan x (indent_at p x) (plan_of p x))
unfolding after_plan
course-after p x closed o =
    let c = plan_of p x in
    let i = indent_at p x in
    let b = step-bounded p x in
    let k = step-cases p x _ (stays p x (closed-drop true x.place p closed) o.still (λ e. (o.idle e).0)) in
    let d : depth_after c.change x.depth ≤ length x.indents = omega (arith, b.sections o.sound.depth, o.room) in
    record {
      sound = after-sound p x c o.sound b;
      room = room_after c.change i x.indents x.depth ∙ o.room;
      line = rw (← (drop-drop c.pass x.place p)) (omega (arith, k.line, o.line));
      still = k.still;
      idle = λ e. let z = k.idle (drop-drop c.pass x.place p ∙ e) in (z.0, z.1 i);
      wide = pairs-after Wide i i x.indents x.indents x.depth c.change d d (opening-wide p i c.change k.wide) o.wide;
    }
