-- Before P's end both readings take the same steps: the plan of a state, and so its step, is the same whether a top-level line
-- follows P or not.
use Rattle.std.specs.Prelude.{Option, Some, None}
use Prim.Native.Nat.{ℕ, zero, suc, ◌≤◌}
use mathlib.Core.Path.{◌≡◌, refl}
use mathlib.Core.List.{List, [], ◌∷◌, ◌++◌}
use mathlib.Core.Bool.{false}
use native.Mathlib.Omega.{arith}
use lib.ListN.{length, drop, get_or}
use lib.Seq.{take-append-le, drop-append-le}
use Rattle.text.specs.Bytes.{is_blank, is_break, line_end}
use Rattle.text.specs.Trimming.{dropped}
use Rattle.text.specs.declared.bytes.Part.{Part}
use Rattle.text.proofs.Cases.{by_bool}
use Rattle.tokenizer_scans.specs.Scans.{blanks, relation_of, text_end, begins_hint, ends_in_break, lines_of}
use Rattle.tokenizer_rules.specs.Plan.{
  plan_newline,
  plan_comment,
  plan_key,
  plan_plain,
  plan_hint,
  plan_value,
  plan_entry,
  plan_multiline,
  plan_open,
  with_value,
  cleared,
  plan_indented,
  plan_on,
  plan_at,
}
use Rattle.tokenizer.specs.Step.{bytes_of, no_part, indent_of, size_of, inner_of, plan_with, step_with, step_rule}
use Rattle.tokenizer_rules.specs.declared.plan.Marks.{Marks}
use Rattle.tokenizer.specs.declared.state.State.{State}
use Rattle.tokenizer_rules.proofs.Plans.{lines_le, line_le}
use Rattle.tokenizer_claims.proofs.Texts.{bytes-append, Indentation, no-indentation}
use Rattle.tokenizer_claims.proofs.Sound.{rest_of, indent_at, Sound, indent-sound}
use Rattle.joining_claims.proofs.Inline.{
  Ended,
  ended-closed,
  ended-drop,
  same-take,
  same_drop,
  line-inline,
  blanks-inline,
  plain-inline,
  text-inline,
  eq-inline,
  starts-line,
  starts-same,
}
use Rattle.joining_claims.proofs.Values.{Top, break-same, lines_same}

-- The plans, over a text that ends in a break

module _ (s : ℕ) (t : List ℕ) (o : Top s) where
  module _ (m : Marks) (k : ℕ) where
    newline-same : (w : List ℕ) → Ended w → plan_newline m k (w ++ s ∷ t) ≡ plan_newline m k w
    unfolding plan_newline
    newline-same w h = rw (break-same s t o w h)

    comment-same : (w : List ℕ) → Ended w → plan_comment m k (w ++ s ∷ t) ≡ plan_comment m k w
    unfolding plan_comment
    comment-same w h = rw (same-take line-inline (s ∷ t) w h, line-inline.same (s ∷ t) w h)

    key-same : (w : List ℕ) → Ended w → plan_key m k (w ++ s ∷ t) ≡ plan_key m k w
    unfolding plan_key
    key-same w h =
        let i = text-inline 61 in
        rw (
          same-take i (s ∷ t) w h,
          same_drop i (s ∷ t) w h,
          i.same (s ∷ t) w h,
          eq-inline.same (s ∷ t) (drop (text_end 61 w) w) (ended-drop (text_end 61 w) w (i.within w) h),
        )

    plain-same : (w : List ℕ) → Ended w → plan_plain m k (w ++ s ∷ t) ≡ plan_plain m k w
    unfolding plan_plain
    plain-same w h = rw (same-take (text-inline 59) (s ∷ t) w h, (text-inline 59).same (s ∷ t) w h)

    hint-same : (w : List ℕ) → Ended w → plan_hint m k (w ++ s ∷ t) ≡ plan_hint m k w
    unfolding plan_hint is_break
    hint-same w h =
        rw (
          starts-same (34 ∷ []) (s ∷ t) w refl h,
          same-take (plain-inline 59) (s ∷ t) w h,
          (plain-inline 59).same (s ∷ t) w h,
        )

    value_same : (w : List ℕ) → Ended w → plan_value m k (w ++ s ∷ t) ≡ plan_value m k w
    unfolding plan_value begins_hint is_break
    value_same w h =
        rw (starts-same (34 ∷ 34 ∷ 34 ∷ []) (s ∷ t) w refl h)
        (by_bool (begins_hint w)
        (λ e.
        let l : 3 ≤ line_end w = starts-line (34 ∷ 34 ∷ 34 ∷ []) w refl e in
        rw (e, drop-append-le 3 w (s ∷ t) (omega (arith, line_le w)), hint-same (drop 3 w) (ended-drop 3 w l h)))
        (λ e. rw (e, plain-same w h)))

  entry-same : (m : Marks) (k b : ℕ) (w : List ℕ) → Ended w → plan_entry m k b (w ++ s ∷ t) ≡ plan_entry m k b w
  unfolding plan_entry
  entry-same m k b w h = rw (value_same (with_value false m) k w h, key-same m k w h)

  -- a multiline value begins only at an indentation that is deeper than another, and so has a first blank
  indented-same : (m : Marks) (depth : ℕ) (inner indent : List ℕ) → blanks indent ≡ length indent
      → (rest : List ℕ) → Ended rest → (k b : ℕ) (w : List ℕ) → Ended w
      → plan_indented m depth inner indent (rest ++ s ∷ t) k b (w ++ s ∷ t) ≡ plan_indented m depth inner indent rest k b w
  unfolding plan_indented plan_multiline plan_open relation_of blanks dropped
  indented-same m depth [] [] q rest g k b w h = entry-same (cleared m) k b w h
  indented-same m depth (a ∷ inner) [] q rest g k b w h = refl
  indented-same m depth inner (i ∷ indent) q rest g k b w h =
      by_bool (is_blank i)
      (λ e.
      rw (
        entry-same (cleared m) k b w h,
        line-inline.same (s ∷ t) w h,
        lines_same s t o i indent e rest (ended-closed rest g),
        take-append-le (lines_of (i ∷ indent) rest).len rest (s ∷ t) (lines_le (i ∷ indent) rest),
      ))
      (λ e. let z = rw e at q in absurd (omega arith))

  on_same : (m : Marks) (depth : ℕ) (inner indent : List ℕ) → blanks indent ≡ length indent
      → (rest : List ℕ) → Ended rest → (k : ℕ) (w : List ℕ) → Ended w
      → plan_on m depth inner indent (rest ++ s ∷ t) k (w ++ s ∷ t) ≡ plan_on m depth inner indent rest k w
  unfolding plan_on ends_in_break
  on_same m depth inner indent q rest g k [] h = absurd cc
  on_same m depth inner indent q rest g k (b ∷ r) h =
      by_bool (is_break b)
      (λ e. rw (e, newline-same m k (b ∷ r) h))
      (λ e.
      rw (
        e,
        comment-same m k r (rw e at h),
        indented-same m depth inner indent q rest g k b (b ∷ r) h,
        entry-same m k b (b ∷ r) h,
      ))

-- The step

inner-sound : (d : List ℕ) (is : List Part) → ((j : ℕ) → Indentation d (get_or is j no_part)) → (n : ℕ) → Indentation d (inner_of is n)
inner-sound d is x zero = no-indentation d
inner-sound d is x (suc n) = x n

indent-same : (h : Option Part) (n : ℕ) (r t : List ℕ) → Ended r → indent_of h n (r ++ t) ≡ indent_of h n r
indent-same None n r t e = rw (blanks-inline.same t r e)
indent-same (Some p) n r t e = refl

size_same : (h : Option Part) (r t : List ℕ) → Ended r → size_of h (r ++ t) ≡ size_of h r
size_same None r t e = blanks-inline.same t r e
size_same (Some p) r t e = refl

pub size-line : (h : Option Part) (r : List ℕ) → size_of h r ≤ line_end r
size-line None r = blanks-inline.within r
size-line (Some p) r = omega arith

module _ (s : ℕ) (t : List ℕ) (o : Top s) (p : List ℕ) (x : State) (f : Sound p x) (e : Ended (rest_of p x)) where
  plan-same : (k : ℕ) → k ≤ line_end (rest_of p x) → plan_with (p ++ s ∷ t) x (indent_at p x) k ≡ plan_with p x (indent_at p x) k
  unfolding plan_with plan_at
  plan-same k l =
      let i = indent-sound p x f in
      let r = rest_of p x in
      rw (
        bytes-append p (s ∷ t) (inner_of x.indents x.depth) (inner-sound p x.indents f.indents x.depth).within,
        bytes-append p (s ∷ t) (indent_at p x) i.within,
        drop-append-le x.place p (s ∷ t) f.place,
        drop-append-le k r (s ∷ t) (omega (arith, line_le r)),
      )
      (on_same s t o x.marks x.depth _ (bytes_of p (indent_at p x)) i.only_blanks r e k (drop k r) (ended-drop k r l e))

  pub step_same : step_rule (p ++ s ∷ t) x ≡ step_rule p x
  unfolding step_rule step_with
  step_same =
      let r = rest_of p x in
      let k = size_of x.held r in
      rw (
        drop-append-le x.place p (s ∷ t) f.place,
        indent-same x.held x.place r (s ∷ t) e,
        size_same x.held r (s ∷ t) e,
        plan-same k (size-line x.held r),
      )
