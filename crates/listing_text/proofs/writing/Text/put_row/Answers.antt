-- Eight texts, one behind the other.
use Prim.Native.Nat.{ℕ}
use mathlib.Core.List.{[], ◌∷◌}
use native.Mathlib.Omega.{arith}
use lib.ListN.{get_or, length-append}
use Rattle.listing_text.specs.Listing.{kind_in, row_text, line_text}
use Rattle.listing_text.specs.Text.{decimal}
use Rattle.listing_text.proofs.Placing.{wrote, both}
use Rattle.listing_text.proofs.writing.Text.put_row.Goals as goal

pub returns-clause-len : goal.returns-clause-len
unfolding row_text line_text
returns-clause-len c = simp length-append (omega arith)

pub returns-clause-out : goal.returns-clause-out
unfolding row_text line_text
returns-clause-out c =
    let word = λ (i : ℕ). get_or c.args.row.now i 0 in
    let w1 = wrote (decimal (word 1)) c.args.self.now.len c.args.self.now.out.now c.put_number.ensures.len c.put_number.ensures.out in
    let w2 = both w1 (wrote (32 ∷ []) _ _ c.put.ensures.len c.put.ensures.out) in
    let w3 = both w2 (wrote (kind_in (word 0)) _ _ c.put_kind.ensures.len c.put_kind.ensures.out) in
    let w4 = both w3 (wrote (32 ∷ []) _ _ c.put-2.ensures.len c.put-2.ensures.out) in
    let w5 = both w4 (wrote (decimal (word 2)) _ _ c.put_number-2.ensures.len c.put_number-2.ensures.out) in
    let w6 = both w5 (wrote (32 ∷ []) _ _ c.put-3.ensures.len c.put-3.ensures.out) in
    let w7 = both w6 (wrote (decimal (word 3)) _ _ c.put_number-3.ensures.len c.put_number-3.ensures.out) in
    (both w7 (wrote (10 ∷ []) _ _ c.put-4.ensures.len c.put-4.ensures.out)).buffer
