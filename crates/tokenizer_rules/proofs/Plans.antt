-- What the proofs of the token readers share. What a reader passes and says lies within the text that it is given, so that its
-- sums fit; and the first byte after the indentation decides the rule of a plan.
use Prim.Native.Nat.{ℕ, ◌+◌, ◌≤◌, ◌<◌}
use mathlib.Core.Path.{◌≡◌, refl, sym, ◌∙◌}
use mathlib.Core.List.{List, [], ◌∷◌}
use mathlib.Core.Bool.{true, false, cond}
use native.Mathlib.Nat.{min-le_right}
use native.Mathlib.Omega.{arith}
use lib.ListN.{length, take, drop, length-take, length-drop}
use lib.Seq.{length-take-le}
use Rattle.std.specs.Prelude.{Option, Some, None, MatchOption, option_map, slice_get}
use Rattle.text.specs.Bytes.{is_break, not_break, break_size, line_end, shifted_by}
use Rattle.std.proofs.lemmas.List.Sums.{prefix_len-le-length}
use Rattle.text.specs.Trimming.{dropped, trimmed}
use Rattle.utf8.specs.Utf8.{utf8}
use Rattle.text.specs.declared.bytes.Part.{Part}
use Rattle.text.specs.declared.trimming.Dropped.{Dropped}
use Rattle.text.proofs.Cases.{by_bool}
use Rattle.text.proofs.Front.{break-le, break-pos}
use Rattle.text.proofs.Trimmed.{trimmed-le}
use Rattle.tokenizer_scans.specs.Scans.{checked_of, plain_end, text_end, eq_size, lines_of}
use Rattle.tokenizer_rules.specs.declared.plan.Marks.{Marks}
use Rattle.tokenizer_rules.specs.declared.plan.Says.{Says}
use Rattle.tokenizer_rules.specs.declared.plan.Says.TheVariants.{MultilineHint, Refused}
use Rattle.tokenizer_rules.specs.declared.plan.Plan.{Plan}
use Rattle.text.specs.declared.refusals.Refusal.TheVariants.{InvalidUtf8}
use Rattle.tokenizer_rules.specs.Plan.{keeps, said, hint_marks, plan_on, plan_end, plan_newline, begins_comment, plan_comment, plan_indented, plan_entry}
use Rattle.tokenizer_scans.specs.declared.readers.Lines.{Lines}
use Rattle.tokenizer_scans.proofs.Quotes.{plain-le, text_le, eq-le}
use Rattle.tokenizer_scans.proofs.Pieces.{extent-le}

-- What is passed and said lies within the text

pub lines_le : (indent s : List ℕ) → (lines_of indent s).len ≤ length s
unfolding lines_of
lines_le indent s = extent-le indent false s

pub lines_in : (indent s : List ℕ) {v : Lines} → v ≡ lines_of indent s → v.len ≡ length (take v.len s)
lines_in indent s e = sym (length-take-le _ _ (rw e (lines_le indent s)))

pub break_le : (s : List ℕ) → break_size s ≤ length s
break_le s = break-le s

pub line_le : (s : List ℕ) → line_end s ≤ length s
line_le s = prefix_len-le-length not_break s

-- a text that was read
pub part_le : (which : Dropped) (n : ℕ) (s : List ℕ) {p : Part} → checked_of which (take n s) ≡ Some p → (p.start ≤ length s) × (p.end ≤ length s)
unfolding checked_of
part_le which n s {p} e =
    by_bool (utf8 (take n s))
    (λ u.
    let q : trimmed (dropped which) (take n s) ≡ p = cc (rw u at e) in
    let l = rw q at (trimmed-le (dropped which) (take n s)) in
    let m = min-le_right n (length s) in
    let o = length-take n s in
    (omega arith, omega arith))
    (λ u. cc (rw u at e))

-- the same behind the bytes that are passed
module _ (k : ℕ) (s : List ℕ) (h : k ≤ length s) where
  pub line_in : k + line_end (drop k s) ≤ length s
  line_in = omega (arith, line_le (drop k s), length-drop k s)

  pub text_in : (also : ℕ) → k + text_end also (drop k s) ≤ length s
  text_in also = omega (arith, text_le also (drop k s), length-drop k s)

  pub plain_in : (also : ℕ) → k + plain_end also (drop k s) ≤ length s
  plain_in also = omega (arith, plain-le also (drop k s), length-drop k s)

pub eq_in : (k : ℕ) (s : List ℕ) → k ≤ length s → k + eq_size (drop k s) ≤ length s
eq_in k s h = omega (arith, eq-le k s)

-- what a step says of it, where it was counted from k bytes before
pub told : (f : Part → Says) (k : ℕ) (x t : Option Part) {r : Says} → t ≡ option_map (shifted_by k) x
    → MatchOption t (r ≡ Refused InvalidUtf8) (λ p. r ≡ f p) → r ≡ said (λ p. f (shifted_by k p)) x
told f k None t e h = rw e at h
told f k (Some p) t e h = rw e at h

-- a hint's marks go by whether it was read
module _ (k : ℕ) (x t : Option Part) (e : t ≡ option_map (shifted_by k) x) (n : ℕ) (m : Marks) where
  abbrev hinted : Plan
  hinted = keeps (said (λ p. MultilineHint (shifted_by k p)) x) n (hint_marks x m)

  pub unread : t ≡ None → keeps (Refused InvalidUtf8) n m ≡ hinted
  unread h = on x (sym e ∙ h)
    where
      on : (x : Option Part) → option_map (shifted_by k) x ≡ None
          → keeps (Refused InvalidUtf8) n m ≡ keeps (said (λ p. MultilineHint (shifted_by k p)) x) n (hint_marks x m)
      on None h = refl
      on (Some p) h = cc

  pub hint_read : (q : Part) → t ≡ Some q → keeps (MultilineHint q) n (record { indent = m.indent; value = m.value; multiline = true }) ≡ hinted
  hint_read q h = on x (sym e ∙ h)
    where
      on : (x : Option Part) → option_map (shifted_by k) x ≡ Some q
          → keeps (MultilineHint q) n (record { indent = m.indent; value = m.value; multiline = true })
          ≡ keeps (said (λ p. MultilineHint (shifted_by k p)) x) n (hint_marks x m)
      on None h = cc
      on (Some p) h = let q : shifted_by k p ≡ q = cc in rw q

-- The rule, by the first byte of what stands after the indentation

module _ (m : Marks) (depth : ℕ) (inner indent rest : List ℕ) (k : ℕ) where
  pub at_end : (s : List ℕ) → None ≡ slice_get s 0 → plan_on m depth inner indent rest k s ≡ plan_end m depth
  unfolding plan_on
  at_end [] e = refl
  at_end (b ∷ r) e = cc

  pub at_break : (s : List ℕ) → 0 < break_size s → plan_on m depth inner indent rest k s ≡ plan_newline m k s
  unfolding plan_on break_size
  at_break [] h = absurd (omega arith)
  at_break (b ∷ []) h = by_bool (is_break b) (λ e. rw e) (λ e. let z = rw e at h in absurd (omega arith))
  at_break (b ∷ c ∷ r) h = by_bool (is_break b) (λ e. rw e) (λ e. let z = rw e at h in absurd (omega arith))

  -- no break, and a first byte
  pub at_byte : (s : List ℕ) (b : ℕ) → break_size s ≤ 0 → Some b ≡ slice_get s 0
      → plan_on m depth inner indent rest k s
      ≡ cond (begins_comment m b) (plan_comment m k (drop 1 s))
      (cond m.indent (plan_indented m depth inner indent rest k b s) (plan_entry m k b s))
  unfolding plan_on
  at_byte [] b h e = cc
  at_byte (a ∷ r) b h e =
      let q : a ≡ b = cc in
      by_bool (is_break a) (λ f. absurd (omega (arith, break-pos a r f))) (λ f. rw f (rw q))
