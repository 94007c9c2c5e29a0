-- The scans that pass breaks: the break of a Newline, and the pieces of a multiline value. Neither goes on into a top-level line
-- that is appended; a value takes whole lines; and no line break is lost between what is passed and what is left.
use Prim.Native.Nat.{ℕ, ◌+◌}
use mathlib.Core.Path.{◌≡◌, refl, sym, ap, ◌∙◌}
use mathlib.Core.List.{List, [], ◌∷◌, ◌++◌}
use mathlib.Core.Bool.{Bool, true, false, not, ◌||◌, true≢false, and-false, or-true}
use native.Mathlib.Nat.{zero-add, add-zero}
use native.Mathlib.Omega.{arith}
use lib.Dec.{eqb, eqb-zero-suc}
use lib.ListN.{length, take, drop}
use lib.Seq.{take-append-le}
use borrow.Author.Tests.{eqb-true, not-true, not-false}
use Rattle.text.specs.Bytes.{is_blank, is_break, break_size, starts_with}
use Rattle.text.specs.Trimming.{dropped}
use Rattle.std.proofs.lemmas.Bool.{or_parts}
use Rattle.text.proofs.Cases.{by_bool}
use Rattle.tokenizer_scans.specs.Scans.{piece, is_void, belongs_to, multiline_end, breaks_after, breaks, ends_in_break, line_count, lines_of}
use Rattle.tokenizer_scans.proofs.Pieces.{extent-le}
use Rattle.joining_claims.specs.Tokens.{Closed, top_level}
use Rattle.joining_claims.proofs.Inline.{Ended, to-break, by-break}

-- the first byte of a top-level line
pub record Top (b : ℕ) : Type 0 where
  pub no-blank : is_blank b ≡ false
  pub no-break : is_break b ≡ false
  pub no-comment : eqb b 59 ≡ false

pub top : (b : ℕ) (r : List ℕ) → top_level (b ∷ r) ≡ true → Top b
unfolding top_level
top b r e =
    let f = or_parts (is_blank b) (is_break b || eqb b 59) (not-true (is_blank b || (is_break b || eqb b 59)) e) in
    let g = or_parts (is_break b) (eqb b 59) f.1 in
    record { no-blank = f.0; no-break = g.0; no-comment = g.1 }

-- Appending

module _ (s : ℕ) (t : List ℕ) (o : Top s) where
  pub break-same : (r : List ℕ) → Ended r → break_size (r ++ s ∷ t) ≡ break_size r
  unfolding break_size ends_in_break is_break
  break-same [] h = absurd cc
  break-same (b ∷ []) h = rw ((or_parts (eqb s 13) (eqb s 10) o.no-break).1, and-false)
  break-same (b ∷ c ∷ r) h = refl

  piece-same : (r : List ℕ) → Ended r → piece (r ++ s ∷ t) ≡ piece r
  unfolding piece
  piece-same = to-break (λ r. piece (r ++ s ∷ t) ≡ piece r) (λ b r e. rw e) (λ b r e i. rw i)

  module _ (i : ℕ) (indent : List ℕ) (blank : is_blank i ≡ true) where
    -- a top-level line is no piece of an indented value
    outside : belongs_to (i ∷ indent) (piece (s ∷ t)) ≡ false
    unfolding belongs_to piece starts_with is_void dropped
    outside =
        by_bool (eqb i s)
        (λ e. absurd (true≢false (sym blank ∙ ap is_blank (eqb-true i s e) ∙ o.no-blank)))
        (λ e. rw (e, o.no-blank, o.no-break) (eqb-zero-suc (length (piece t))))

    extent-same : (before : Bool) (r : List ℕ) → ends_in_break before r ≡ true
        → multiline_end (i ∷ indent) (not before) (r ++ s ∷ t) ≡ multiline_end (i ∷ indent) (not before) r
    unfolding multiline_end ends_in_break
    extent-same before [] h = rw (h, outside)
    extent-same before (b ∷ r) h = rw (piece-same (b ∷ r) h, extent-same (is_break b) r h)

    taken-same : (r : List ℕ) → Closed r
        → take (multiline_end (i ∷ indent) false (r ++ s ∷ t)) (r ++ s ∷ t) ≡ take (multiline_end (i ∷ indent) false r) r
    taken-same r h = rw (extent-same true r h) (take-append-le _ r (s ∷ t) (extent-le (i ∷ indent) false r))

    pub lines_same : (r : List ℕ) → Closed r → lines_of (i ∷ indent) (r ++ s ∷ t) ≡ lines_of (i ∷ indent) r
    unfolding lines_of
    lines_same r h = rw (taken-same r h, extent-same true r h)

-- The breaks that are left

pub newline-breaks : (b : ℕ) (r : List ℕ) → is_break b ≡ true → 1 + breaks (drop (break_size (b ∷ r)) (b ∷ r)) ≡ breaks (b ∷ r)
unfolding break_size breaks_after is_break
newline-breaks b r = by-break (λ b. 1 + breaks (drop (break_size (b ∷ r)) (b ∷ r)) ≡ breaks (b ∷ r)) b (after-cr r) (after-lf r)
  where
    after-cr : (r : List ℕ) → 1 + breaks (drop (break_size (13 ∷ r)) (13 ∷ r)) ≡ breaks (13 ∷ r)
    after-cr [] = omega arith
    after-cr (c ∷ r) = by_bool (eqb c 10) (λ e. rw (eqb-true c 10 e) (omega arith)) (λ e. rw e (rw e (omega arith)))

    after-lf : (r : List ℕ) → 1 + breaks (drop (break_size (10 ∷ r)) (10 ∷ r)) ≡ breaks (10 ∷ r)
    after-lf [] = omega arith
    after-lf (c ∷ r) = omega arith

module _ (indent : List ℕ) where
  -- a value's pieces are whole lines where the text ends in a break
  whole-lines : (before : Bool) (r : List ℕ) → ends_in_break before r ≡ true → ends_in_break before (take (multiline_end indent (not before) r) r) ≡ true
  unfolding multiline_end ends_in_break
  whole-lines before [] h = h
  whole-lines before (b ∷ r) h =
      by_bool (not before || belongs_to indent (piece (b ∷ r)))
      (λ e. rw e (whole-lines (is_break b) r h))
      (λ e. rw e (not-false before (or_parts (not before) (belongs_to indent (piece (b ∷ r))) e).0))

  -- a lone LF is a piece of every value
  takes-lf : (r : List ℕ) → belongs_to indent (piece (10 ∷ r)) ≡ true
  unfolding belongs_to piece is_void dropped is_break is_blank
  takes-lf r = or-true (starts_with indent (10 ∷ []))

  -- so it does not end between CR and LF
  breaks-kept : (inside cr : Bool) (r : List ℕ)
      → breaks_after cr (take (multiline_end indent inside r) r) + breaks (drop (multiline_end indent inside r) r) ≡ breaks_after cr r
  unfolding multiline_end breaks_after
  breaks-kept inside cr [] = refl
  breaks-kept inside cr (b ∷ r) =
      by_bool (inside || belongs_to indent (piece (b ∷ r)))
      (λ e. rw e (taken (multiline_end indent (not (is_break b)) r) (breaks-kept (not (is_break b)) true r) (breaks-kept (not (is_break b)) false r)))
      (λ e.
      by_bool (eqb b 10)
      (λ t. absurd (true≢false (sym (takes-lf r) ∙ (or_parts inside _ (rw (eqb-true b 10 t) at e)).1)))
      (λ t. rw (e, t, zero-add)))
    where
      taken : (n : ℕ) → breaks_after true (take n r) + breaks (drop n r) ≡ breaks_after true r → breaks (take n r) + breaks (drop n r) ≡ breaks r
          → breaks_after cr (b ∷ take n r) + breaks (drop n r) ≡ breaks_after cr (b ∷ r)
      taken n c f =
          by_bool (eqb b 13)
          (λ t. rw t (omega arith))
          (λ t. by_bool (eqb b 10) (λ u. rw (t, u) (by_bool cr (λ v. rw v f) (λ v. rw v (omega arith)))) (λ u. rw (t, u) f))

  pub lines_left : (r : List ℕ) → Closed r → (lines_of indent r).count + breaks (drop (lines_of indent r).len r) ≡ breaks r
  unfolding lines_of line_count
  lines_left r h = rw (whole-lines true r h, add-zero) (breaks-kept false false r)
