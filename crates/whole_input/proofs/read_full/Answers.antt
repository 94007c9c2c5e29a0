-- What one more read gives stands behind what was read before.
use Rattle.std.proofs.Common.{◌≡◌, ℕ, ◌+◌, ◌-◌, ◌≤◌, List, ◌++◌, rules, length, take, sym, ap, ◌∙◌, subst, length-take-le}
use Rattle.std.proofs.KnownBytes.{Consumes-trans}
use Rattle.std.proofs.Math.Seq.{take-append-add}
use Rattle.std.proofs.lemmas.List.{take-append-le}
use Rattle.std.specs.Io.KnownBytes.{Consumes}
use borrow.Rule.Slice.PartMut.{put_mid, post_of}
use Rattle.whole_input.proofs.read_full.Goals as goal

-- ys was put behind the first a of xs: of all that, the first a + n
take-put_mid_more : (a k n : ℕ) (xs ys : List ℕ) → a ≤ length xs → n ≤ length ys
    → take (a + n) (put_mid a k xs ys) ≡ take a xs ++ take n ys
take-put_mid_more a k n xs ys within fits =
    let after = post_of a k xs in
    ap (λ m. take (m + n) (take a xs ++ (ys ++ after))) (sym (length-take-le a xs within))
    ∙ take-append-add (take a xs) (ys ++ after) n ∙ ap (λ l. take a xs ++ l) (take-append-le n ys after fits)

pub loop-len-preserved : goal.loop-len-preserved
loop-len-preserved g c =
    let from = c.loop-len.len in
    let room = length c.loop-len.buf - from in
    let more = c.in_ok-more in
    let within = c.loop-len.invariant.1 in
    let joined = take-put_mid_more from room more.more c.loop-len.buf c.read.new.buf within more.ensures.bound.0 in
    let read = Consumes-trans _ _ _ _ _ c.loop-len.invariant.2 more.ensures.bytes.0 in
    (search rules, search rules, subst (Consumes _ _) (sym joined) read)
