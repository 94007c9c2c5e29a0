-- The lines of a multiline value, one at a time: the first is the bytes before the first break, and the others are the lines
-- after that break, where it opens one.
use Prim.Native.Nat.{ℕ}
use mathlib.Core.Path.{◌≡◌, refl}
use mathlib.Core.List.{List, [], ◌∷◌, ◌++◌}
use mathlib.Core.Bool.{true, false}
use native.Mathlib.Numerals.{one-add}
use native.Mathlib.Omega.{arith}
use lib.Dec.{eqb}
use lib.ListN.{length, take, drop}
use lib.Seq.{drop-length}
use borrow.Author.Tests.{eqb-true, lt-ltb}
use Rattle.text.specs.Bytes.{is_break, line_end, break_size, starts_with}
use Rattle.text.proofs.Cases.{by_bool}
use Rattle.unescape_pieces.specs.Meaning.{is_empty, lines_in, without, later_lines, joined_lines}
use Rattle.unescape_pieces.specs.Pieces.{opened_by, lines_after, later_from, skipped}

-- the first line and the others
pub lines_split : (s : List ℕ) → lines_in s ≡ take (line_end s) s ∷ lines_after (drop (line_end s) s)
unfolding is_break lines_in opened_by break_size is_empty
lines_split [] = refl
lines_split (b ∷ []) =
    by_bool (eqb b 10) (λ e. rw (eqb-true b 10 e))
    (λ e. by_bool (eqb b 13) (λ f. rw (eqb-true b 13 f)) (λ f. rw (e, f)))
lines_split (b ∷ c ∷ []) =
    by_bool (eqb b 10)
    (λ e. rw (eqb-true b 10 e))
    (λ e. by_bool (eqb b 13)
    (λ f. rw (eqb-true b 13 f) (by_bool (eqb c 10) (λ g. rw (eqb-true c 10 g)) (λ g. rw g (rw g))))
    (λ f. rw (e, f, one-add, lines_split (c ∷ []))))
lines_split (b ∷ c ∷ d ∷ r) =
    by_bool (eqb b 10)
    (λ e. rw (eqb-true b 10 e, lt-ltb 1 (length (b ∷ c ∷ d ∷ r)) (omega arith)))
    (λ e. by_bool (eqb b 13)
    (λ f. rw (eqb-true b 13 f) (by_bool (eqb c 10) (λ g. rw (eqb-true c 10 g, lt-ltb 2 (length (b ∷ c ∷ d ∷ r)) (omega arith))) (λ g. rw (g, lt-ltb 1 (length (b ∷ c ∷ d ∷ r)) (omega arith)) (rw g))))
    (λ f. rw (e, f, one-add, lines_split (c ∷ d ∷ r))))

module _ (indent : List ℕ) where
  first-kept : (l : List ℕ) → without indent l l ≡ drop (skipped false indent l) l
  first-kept l = by_bool (starts_with indent l) (λ e. rw e) (λ e. rw e)

  later-kept : (l : List ℕ) → without indent l [] ≡ drop (skipped true indent l) l
  later-kept l = by_bool (starts_with indent l) (λ e. rw e) (λ e. rw (e, drop-length))

  pub first-line : (s : List ℕ) → joined_lines indent (lines_in s)
      ≡ drop (skipped false indent (take (line_end s) s)) (take (line_end s) s) ++ later_lines indent (lines_after (drop (line_end s) s))
  unfolding joined_lines
  first-line s = rw (lines_split s, first-kept)

  pub later-line : (s : List ℕ) → later_from indent (lines_in s)
      ≡ drop (skipped true indent (take (line_end s) s)) (take (line_end s) s) ++ later_lines indent (lines_after (drop (line_end s) s))
  unfolding later_from
  later-line s = rw (lines_split s, later-kept)

  -- a line that a break opened
  pub opened : (s : List ℕ) → later_lines indent (lines_in s) ≡ 10 ∷ later_from indent (lines_in s)
  unfolding later_lines later_from
  opened s = rw (lines_split s)
