-- What the reading of a text begins with is its meaning: a part of it, or the pieces from a place on.
use Prim.Native.Nat.{ℕ, suc, ◌+◌, ◌-◌, ◌≤◌}
use mathlib.Core.Path.{◌≡◌, refl, sym, ap, ap₂, subst, ◌∙◌}
use mathlib.Core.List.{List, [], ◌∷◌}
use mathlib.Core.Bool.{Bool, false, ◌&&◌, and-true, and-false}
use native.Mathlib.Numerals.{one-add}
use native.Mathlib.Omega.{arith}
use lib.Dec.{eqb, eqb-suc-suc}
use lib.ListN.{length, take, drop, get_or}
use borrow.Author.Tests.{eqb-true, ne_eqb, le-leb}
use Rattle.text.specs.Bytes.{line_end}
use Rattle.std.specs.List.{list_all, prefix_len}
use Rattle.text.specs.declared.bytes.Part.{Part}
use Rattle.text.proofs.Cases.{by_bool, on-cond, and_left}
use Rattle.std.proofs.lemmas.List.Sums.{prefix_len-le-length}
use Rattle.unescape_pieces.specs.Meaning.{part, is_literal, simply_quoted, entry_meaning, block_meaning, meaning}
use Rattle.unescape_pieces.specs.Pieces.{entry_start, block_start, start_of, begun, meaning_from, Lies}
use Rattle.unescape_pieces.specs.declared.start.Style.{Style}
use Rattle.unescape_pieces.specs.declared.start.Style.TheVariants.{AsIs, Entry, Block}
use Rattle.unescape_pieces.specs.declared.start.Start.TheVariants.{Plain, Pieces}
use Rattle.unescape_pieces.specs.declared.pieces.Spot.{Spot}
use Rattle.unescape_pieces.proofs.Escapes.{neither}

-- Quotes at both ends and nothing to unescape between: the first `"` or `\` after the opening quote is a `"`, the last byte

abbrev Closes : List ℕ → ℕ → Bool
Closes r n = eqb (n + 1) (length r) && eqb (get_or r n 0) 34

closes : (c : ℕ) (r : List ℕ) → eqb (get_or (c ∷ r) (length r) 0) 34 && list_all is_literal (take (length r) (c ∷ r)) ≡ Closes (c ∷ r) (prefix_len is_literal (c ∷ r))
closes c [] =
    by_bool (is_literal c)
    (λ e. rw (e, (neither (eqb c 34) (eqb c 92) e).0))
    (λ e. rw (e, and-true))
closes c (d ∷ r) =
    by_bool (is_literal c)
    (λ e. let k = prefix_len is_literal (d ∷ r) in
    let z : suc k + 1 ≡ suc (k + 1) = omega arith in
    rw (e, one-add, z, eqb-suc-suc) (closes d r))
    (λ e. rw (e, and-false, ne_eqb (0 + 1) (suc (suc (length r))) (λ z. omega arith)))

simply : (r : List ℕ) → simply_quoted (34 ∷ r) ≡ Closes r (prefix_len is_literal r)
unfolding simply_quoted
simply [] = none
  where
    none : false ≡ Closes [] (prefix_len is_literal [])
    none = sym (ap (λ t. t && eqb (get_or [] (prefix_len is_literal []) 0) 34) (ne_eqb (prefix_len is_literal [] + 1) 0 (λ z. omega arith)))
simply (c ∷ r) =
    let y : length (34 ∷ c ∷ r) - 1 ≡ suc (length r) = omega arith in
    let z : length (34 ∷ c ∷ r) - 2 ≡ length r = omega arith in
    rw (le-leb 2 (length (34 ∷ c ∷ r)) (omega arith)) (ap₂ (λ i j. eqb (get_or (34 ∷ c ∷ r) i 0) 34 && list_all is_literal (take j (c ∷ r))) y z ∙ closes c r)

entry-begun : (indent s : List ℕ) → entry_meaning s ≡ begun (entry_start s) indent s
unfolding entry_meaning entry_start meaning_from
entry-begun indent [] = refl
entry-begun indent (b ∷ r) =
    by_bool (eqb b 34)
    (λ e. let n = prefix_len is_literal r in
    by_bool (Closes r n)
    (λ t. rw (eqb-true b 34 e, simply r, t, ← eqb-true (n + 1) (length r) (and_left (eqb (n + 1) (length r)) _ t)))
    (λ t. rw (eqb-true b 34 e, simply r, t)))
    (λ e. rw e)

block-begun : (indent s : List ℕ) → block_meaning indent s ≡ begun (block_start s) indent s
unfolding block_meaning block_start meaning_from
block-begun indent s = by_bool (eqb (line_end s) (length s)) (λ e. rw e) (λ e. rw e)

pub begun_law : (style : Style) (s indent : List ℕ) → meaning style s indent ≡ begun (start_of style s) indent s
unfolding meaning start_of
begun_law AsIs s indent = refl
begun_law Entry s indent = entry-begun indent s
begun_law Block s indent = block-begun indent s

entry-lies : (s : List ℕ) → Lies (entry_start s) s
unfolding entry_start
entry-lies [] = (omega arith, omega arith)
entry-lies (b ∷ r) =
    let n = prefix_len is_literal r in
    let k = prefix_len-le-length is_literal r in
    on-cond (λ x. Lies x (b ∷ r)) (eqb b 34)
    (λ e. on-cond (λ x. Lies x (b ∷ r)) (Closes r n)
    (λ t. (omega arith, omega (arith, eqb-true (n + 1) (length r) (and_left (eqb (n + 1) (length r)) _ t))))
    (λ t. omega arith))
    (λ e. (omega arith, omega arith))

pub lies : (style : Style) (s : List ℕ) → Lies (start_of style s) s
unfolding start_of block_start
lies AsIs s = (omega arith, omega arith)
lies Entry s = entry-lies s
lies Block s = on-cond (λ x. Lies x s) (eqb (line_end s) (length s)) (λ e. (omega arith, omega arith)) (λ e. omega arith)

-- The same by what it begins with

module _ (style : Style) (s : List ℕ) where
  pub part-means : {p : Part} (indent : List ℕ) → start_of style s ≡ Plain p → meaning style s indent ≡ part p.start p.end
  part-means indent q = begun_law style s indent ∙ ap (λ x. begun x indent s) q

  pub part_lies : {p : Part} → start_of style s ≡ Plain p → (p.start ≤ p.end) × (p.end ≤ length s)
  part_lies q = subst (λ x. Lies x s) q (lies style s)

  pub pieces-mean : {n : ℕ} {spot : Spot} (indent : List ℕ) → start_of style s ≡ Pieces n spot → meaning style s indent ≡ meaning_from spot indent (drop n s) n
  pieces-mean indent q = begun_law style s indent ∙ ap (λ x. begun x indent s) q

  pub pieces-lie : {n : ℕ} {spot : Spot} → start_of style s ≡ Pieces n spot → n ≤ length s
  pieces-lie q = subst (λ x. Lies x s) q (lies style s)
