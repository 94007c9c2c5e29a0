-- What each answer of the tokenizer tells the parser: which mark it needs, what its step leaves of the marks and the
-- open sections, and what it spends. A Value or hint needs the value mark, which only a key or item sets, and a
-- multiline value the multiline mark, which only a hint sets; an Indent finds fewer than 64 sections open, an Outdent
-- at least one; a key or item has a line. One walk through the leaves of the plan shows it.
use Rattle.std.specs.Prelude.{Some, None, Ok, Err, Option}
use Rattle.tokenizer.specs.Token.{Answer}
use Prim.Native.Nat.{ℕ, suc, ◌+◌, ◌*◌, ◌-◌, ◌≤◌, ◌<◌}
use mathlib.Core.Path.{◌≡◌, refl, sym, ap, ◌∙◌}
use mathlib.Core.List.{List, [], ◌∷◌}
use mathlib.Core.Bool.{true, false}
use native.Mathlib.Nat.{add-zero}
use native.Mathlib.Numerals.{add-one}
use native.Mathlib.Omega.{arith}
use lib.ListN.{length, take, drop, length-drop}
use lib.Seq.{drop-nil}
use Rattle.text.proofs.Front.{break-pos}
use Rattle.text.specs.declared.bytes.Part.{Part}
use Rattle.text.specs.Bytes.{line_end}
use Rattle.text.specs.declared.trimming.Dropped.TheVariants.{Blanks, BlanksAndBreaks}
use Rattle.tokenizer_scans.specs.Scans.{blanks, plain_end, text_end, checked_of, multiline_end, lines_of}
use Rattle.tokenizer_rules.specs.Plan.{said, with_value, hint_marks, cleared, plan_newline, plan_comment, plan_item, plan_key, plan_plain, plan_multiline, plan_outdent}
use Rattle.tokenizer.specs.Step.{bytes_of, size_of, after_plan, step_with, step_rule, step_of}
use Rattle.tokenizer.specs.Lists.{is_end}
use Rattle.tokenizer_rules.specs.declared.plan.Marks.{Marks}
use Rattle.tokenizer_rules.specs.declared.plan.Says.{Says}
use Rattle.tokenizer.specs.declared.token.Token.{Token}
use Rattle.tokenizer.specs.declared.token.Token.TheVariants.{
  Newline,
  Comment,
  Indent,
  Outdent,
  ListItem,
  MapKey,
  Value,
  MultilineHint,
  MultilineValue,
  NoValue,
}
use Rattle.tokenizer.specs.declared.state.State.{State}
use Rattle.tokenizer_rules.proofs.PlanCases.{plan_hinted, Entry, later, first}
use Rattle.tokenizer.proofs.Bounds.{Bounded, rest-size}
use Rattle.tokenizer_claims.proofs.Sound.{rest_of, indent_at, answer_at, StepCases, step-cases, step-bounded, Sound, step-sound}
use Rattle.tokenizer_claims.proofs.Weight.{count, held_size, weight, other-pos, count-le, entry-late, Turn, plan-turns}

-- what stands after the indentation
abbrev pub left : List ℕ → State → List ℕ
left d t = drop (size_of t.held (rest_of d t)) (rest_of d t)

-- A value is due: the mark stands, and something is left. Some the end of the document Outdents leave a mark that nothing answers.
pub record Due (d : List ℕ) (t : State) : Type 0 where
  pub more : left d t ≡ [] → ⊥
  pub mark : t.marks.value ≡ true

abbrev pub MultilineDue : State → Type 0
MultilineDue t = t.marks.multiline ≡ true

-- What a reading has left to spend, as in reading's Weight but without the value mark: the parser counts what it awaits instead.
unfoldable pub room : List ℕ → State → ℕ
room d t = 2 * (length d - t.place + held_size t.held) + t.depth + 2 * count t.marks.multiline

-- no value is due at the start of a line
abbrev pub Early : State → Type 0
Early t = t.marks.indent ≡ true → t.marks.value ≡ false

-- A step from t to u: a value is due after it only if A, a multiline value only if B; n sections are open then, and it spends k.
pub record Turned (d : List ℕ) (t u : State) (A B : Type 0) (n k : ℕ) : Type 0 where
  pub value : Due d u → A
  pub multiline : MultilineDue u → B
  pub early : Early u
  pub depth : u.depth ≡ n
  pub spent : k + room d u ≤ room d t

abbrev pub TokenTold : List ℕ → State → Token → State → Type 0
TokenTold d t (Newline l) u = Turned d t u (Due d t) (MultilineDue t) t.depth 1
TokenTold d t (Comment l p) u = Turned d t u (Due d t) (MultilineDue t) t.depth 1
TokenTold d t (Indent l) u = (t.depth < 64) × Turned d t u ⊥ ⊥ (suc t.depth) 1
TokenTold d t (Outdent l o) u = (0 < t.depth) × Turned d t u ⊥ (MultilineDue t) (t.depth - 1) 1
TokenTold d t (ListItem l) u = (0 < l) × Turned d t u (Unit {0}) (MultilineDue t) t.depth 2
TokenTold d t (MapKey l p) u = (0 < l) × Turned d t u (Unit {0}) (MultilineDue t) t.depth 2
TokenTold d t (Value l p) u = Due d t × Turned d t u ⊥ (MultilineDue t) t.depth 0
TokenTold d t (MultilineHint l p) u = Due d t × Turned d t u ⊥ (Unit {0}) t.depth 1
TokenTold d t (MultilineValue l i p) u = MultilineDue t × Turned d t u ⊥ ⊥ t.depth 1
TokenTold d t (NoValue l) u = ⊥

abbrev pub Told : List ℕ → State → Answer → State → Type 0
Told d t None u = Unit {0}
Told d t (Some (Ok k)) u = TokenTold d t k u
Told d t (Some (Err e)) u = 1 ≤ room d t

entry-multiline : {m n : Marks} {inner indent : List ℕ} → Entry m inner indent n → n.multiline ≡ true → m.multiline ≡ true
entry-multiline (later e) u = u
entry-multiline (first e q) u = absurd cc

hint-value : (x : Option Part) (m : Marks) → (hint_marks x m).value ≡ m.value
hint-value (Some p) m = refl
hint-value None m = refl

-- where nothing stands after the indentation, nothing does once it is no longer held
none_left : (h : Option Part) (r : List ℕ) → drop (size_of h r) r ≡ [] → drop (blanks r) r ≡ []
none_left None r q = q
none_left (Some p) r q = rw q (drop-nil (blanks []))

module _ (d : List ℕ) (t : State) where
  -- no value mark is left
  unmarked : {u : State} {A B : Type 0} {n k : ℕ} → u.marks.value ≡ false → (MultilineDue u → B) → u.depth ≡ n
      → k + room d u ≤ room d t → Turned d t u A B n k
  unmarked v m e s = record { value = λ x. absurd cc; multiline = m; early = λ i. v; depth = e; spent = s }

  -- a key or item leaves the value mark, past the start of its line
  entered : {m : Marks} {inner indent : List ℕ} {u : State} → Entry t.marks inner indent m → u.marks ≡ with_value true m
      → u.depth ≡ t.depth → 2 + room d u ≤ room d t → Turned d t u (Unit {0}) (MultilineDue t) t.depth 2
  entered e q h s = record {
    value = λ x. tt;
    multiline = λ x. entry-multiline e (sym (ap (λ m. m.multiline) q) ∙ x);
    early = λ i. let l = ap (λ m. m.indent) q ∙ entry-late e in absurd cc;
    depth = h;
    spent = s;
  }

  -- a text that was read, said as f does
  said-told : (f : Part → Says) (x : Option Part) (u : State) → 1 ≤ room d t → ((p : Part) → x ≡ Some p → Told d t (answer_at d t (f p)) u)
      → Told d t (answer_at d t (said f x)) u
  said-told f (Some p) u r h = h p refl
  said-told f None u r h = r

  tells : 0 < t.line → Early t
      → StepCases d t
      (λ p. Bounded (length (rest_of d t)) t.depth p → Turn d t p → Told d t (answer_at d t p.says) (after_plan t (indent_at d t) p))
  unfolding room weight after_plan is_end plan_newline plan_comment plan_item plan_key plan_plain plan_multiline plan_outdent lines_of
  tells line early =
      let rest = rest_of d t in
      let indent = bytes_of d (indent_at d t) in
      let k = size_of t.held rest in
      let after = after_plan t (indent_at d t) in
      let l = length-drop t.place d in
      record {
        ends = λ q n h w. tt;
        closes = λ q n h w. (
          n,
          record {
            value = λ x. x.more (rw add-zero (none_left t.held rest q));
            multiline = λ x. x;
            early = early;
            depth = refl;
            spent = omega (arith, w.falls refl);
          },
        );
        line = λ b r q.
            let s = b ∷ r in
            let z = rest-size k rest b r q in
            let more : left d t ≡ [] → ⊥ = λ e. cc in
            let some : 1 ≤ room d t = omega arith in
            record {
              newline = λ e h w. unmarked refl (λ x. x) refl (omega (arith, break-pos b r e));
              comment = λ e c h w.
                  said-told _ (checked_of Blanks (take (line_end r) r)) (after (plan_comment t.marks k r)) some
                  (λ p q. record {
                    value = λ x. record { more = more; mark = x.mark };
                    multiline = λ x. x;
                    early = early;
                    depth = refl;
                    spent = omega (arith, w.falls (rw q));
                  });
              multiline = λ c i e u h w.
                  let y = plan_multiline (cleared t.marks) indent rest in
                  said-told _ (checked_of BlanksAndBreaks (take (multiline_end indent false rest) rest)) (after y) some
                  (λ p q. (u, unmarked (early i) (λ x. cc) refl (omega (arith, w.falls (rw q)))));
              opens = λ c i e u n h w. (n, unmarked (early i) (λ x. cc) (add-one t.depth) (omega (arith, w.falls refl)));
              full = λ c i e u n h w. some;
              outdent = λ c i e h w.
                  (other-pos d t.indents t.depth _ e, unmarked (early i) (λ x. absurd cc) refl (omega (arith, w.falls refl)));
              item = λ c e v f h w. (line, entered e refl refl (omega (arith, w.falls refl, ap count v)));
              key = λ {n = m} c e v f h w.
                  said-told _ (checked_of Blanks (take (text_end 61 s) s)) (after (plan_key m k s)) some
                  (λ p q. (line, entered e refl refl (omega (arith, w.falls (rw q), ap count v))));
              quotes = λ c e v f g h w. some;
              hint = λ {n = m} c e v f g h w.
                  let n = with_value false m in
                  let y = drop 3 s in
                  let x = checked_of Blanks (take (plain_end 59 y) y) in
                  let o = count-le (hint_marks x n).multiline in
                  said-told _ x (after (plan_hinted n k y)) some
                  (λ p q. (record { more = more; mark = v }, unmarked (hint-value x n) (λ x. tt) refl (omega arith)));
              plain = λ {n = m} c e v f h w.
                  said-told _ (checked_of Blanks (take (text_end 59 s) s)) (after (plan_plain (with_value false m) k s)) some
                  (λ p q. (record { more = more; mark = v }, unmarked refl (entry-multiline e) refl (omega (arith, w.falls (rw q), ap count v))));
            };
      }

pub step-told : (d : List ℕ) (t : State) → length d ≤ 16777216 → Sound d t → Early t → Told d t (step_of d t).answer (step_of d t).state
unfolding step_rule step_with
step-told d t l o e = rw (step-sound d t l o) (step-cases d t _ (tells d t o.first e) (step-bounded d t) (plan-turns d t o))
