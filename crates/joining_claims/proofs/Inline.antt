-- The scans that stay in a line. In a text that ends in CR or LF such a scan stops before the first break, so it gives the same
-- whatever is appended, and what stands after the bytes that it counts is again a text that ends in CR or LF. Two walks carry
-- all of it: through the first line up to its break, and over some bytes of it.
use Prim.Native.Nat.{ℕ, zero, suc, ◌+◌, ◌≤◌, ◌<◌}
use mathlib.Core.Path.{◌≡◌, refl, ap}
use mathlib.Core.List.{List, [], ◌∷◌, ◌++◌}
use mathlib.Core.Bool.{Bool, true, false, not, ◌&&◌}
use native.Mathlib.Omega.{arith}
use lib.Dec.{eqb}
use lib.ListN.{length, take, drop}
use lib.Seq.{take-append-le, drop-append-le}
use borrow.Author.Tests.{eqb-true}
use Rattle.text.specs.Bytes.{is_blank, is_break, not_break, line_end, starts_with}
use Rattle.std.specs.List.{prefix_len}
use Rattle.text.specs.Trimming.{dropped}
use Rattle.text.specs.declared.trimming.Dropped.TheVariants.{Blanks}
use Rattle.text.proofs.Cases.{by_bool, on-cond, and_left, and_right}
use Rattle.std.proofs.lemmas.Bool.{or_parts}
use Rattle.tokenizer_scans.specs.Scans.{blanks, stops, plain_end, closing, quotes_end, text_end, eq_size, breaks_after, breaks, ends_in_break}
use Rattle.tokenizer_rules.proofs.Plans.{line_le}
use Rattle.joining_claims.specs.Tokens.{Closed}

-- Texts that end in a break

-- and so are not empty
abbrev pub Ended : List ℕ → Type 0
Ended r = ends_in_break false r ≡ true

pub ended-closed : (r : List ℕ) → Ended r → Closed r
unfolding ends_in_break
ended-closed [] h = absurd cc
ended-closed (b ∷ r) h = h

pub closed-ended : (r : List ℕ) → Closed r → (r ≡ [] → ⊥) → Ended r
unfolding ends_in_break
closed-ended [] h n = absurd (n refl)
closed-ended (b ∷ r) h n = h

pub closed-drop : (before : Bool) (n : ℕ) (r : List ℕ) → ends_in_break before r ≡ true → Closed (drop n r)
unfolding ends_in_break
closed-drop before zero [] h = refl
closed-drop before (suc n) [] h = refl
closed-drop before zero (b ∷ r) h = h
closed-drop before (suc n) (b ∷ r) h = closed-drop (is_break b) n r h

-- The two walks

-- through the first line, to its break
pub to-break : (G : List ℕ → Type 0) → ((b : ℕ) (r : List ℕ) → is_break b ≡ true → G (b ∷ r))
    → ((b : ℕ) (r : List ℕ) → is_break b ≡ false → G r → G (b ∷ r)) → (r : List ℕ) → Ended r → G r
unfolding ends_in_break
to-break G f g [] h = absurd cc
to-break G f g (b ∷ r) h = by_bool (is_break b) (f b r) (λ e. g b r e (to-break G f g r (rw e at h)))

-- over n bytes of it
over-bytes : (G : ℕ → List ℕ → Type 0) → ((r : List ℕ) → G 0 r) → ((n b : ℕ) (r : List ℕ) → is_break b ≡ false → G n r → G (suc n) (b ∷ r))
    → (n : ℕ) (r : List ℕ) → n ≤ line_end r → G n r
over-bytes G f g zero r l = f r
over-bytes G f g (suc n) [] l = absurd (omega arith)
over-bytes G f g (suc n) (b ∷ r) l =
    by_bool (is_break b)
    (λ e. let k = rw e at l in absurd (omega arith))
    (λ e. let k = rw e at l in g n b r e (over-bytes G f g n r (omega arith)))

pub line-lt : (r : List ℕ) → Ended r → line_end r < length r
line-lt = to-break (λ r. line_end r < length r) (λ b r e. rw e (omega arith)) (λ b r e i. rw e (omega arith))

pub line-drop : (n : ℕ) (r : List ℕ) → n ≤ line_end r → line_end r ≡ n + line_end (drop n r)
line-drop = over-bytes (λ n r. line_end r ≡ n + line_end (drop n r)) (λ r. omega arith) (λ n b r e i. rw e (omega arith))

pub ended-drop : (n : ℕ) (r : List ℕ) → n ≤ line_end r → Ended r → Ended (drop n r)
unfolding ends_in_break
ended-drop = over-bytes (λ n r. Ended r → Ended (drop n r)) (λ r h. h) (λ n b r e i h. i (rw e at h))

pub breaks-drop : (n : ℕ) (r : List ℕ) → n ≤ line_end r → breaks (drop n r) ≡ breaks r
unfolding breaks_after is_break
breaks-drop =
    over-bytes (λ n r. breaks (drop n r) ≡ breaks r) (λ r. refl)
    (λ n b r e i. let k = or_parts (eqb b 13) (eqb b 10) e in rw (k.0, k.1) i)

-- Scans that stay in the line

pub record Inline (f : List ℕ → ℕ) : Type 0 where
  pub within : (r : List ℕ) → f r ≤ line_end r
  pub same : (t r : List ℕ) → Ended r → f (r ++ t) ≡ f r

pub same-take : {f : List ℕ → ℕ} → Inline f → (t r : List ℕ) → Ended r → take (f (r ++ t)) (r ++ t) ≡ take (f r) r
same-take {f} i t r h = rw (i.same t r h) (take-append-le (f r) r t (omega (arith, i.within r, line_le r)))

pub same_drop : {f : List ℕ → ℕ} → Inline f → (t r : List ℕ) → Ended r → drop (f (r ++ t)) (r ++ t) ≡ drop (f r) r ++ t
same_drop {f} i t r h = rw (i.same t r h) (drop-append-le (f r) r t (omega (arith, i.within r, line_le r)))

-- one after the other
pub and_then : {f g : List ℕ → ℕ} → Inline f → Inline g → Inline (λ r. f r + g (drop (f r) r))
and_then {f} {g} i j = record {
  within = λ r. omega (arith, line-drop (f r) r (i.within r), j.within (drop (f r) r));
  same = λ t r h. rw (same_drop i t r h, i.same t r h, j.same t (drop (f r) r) (ended-drop (f r) r (i.within r) h));
}

-- counting bytes, none of which is a break
count-inline : (p : ℕ → Bool) → ((b : ℕ) → is_break b ≡ true → p b ≡ false) → Inline (prefix_len p)
count-inline p n = record {
  within = below;
  same = λ t. to-break (λ r. prefix_len p (r ++ t) ≡ prefix_len p r) (λ b r e. rw (n b e)) (λ b r e i. rw i);
}
  where
    below : (r : List ℕ) → prefix_len p r ≤ line_end r
    below [] = omega arith
    below (b ∷ r) =
        by_bool (is_break b)
        (λ e. rw (n b e) (omega arith))
        (λ e. rw e (on-cond (λ k. k ≤ 1 + line_end r) (p b) (λ t. omega (arith, below r)) (λ t. omega arith)))

-- a break is CR or LF
pub by-break : (G : ℕ → Type 0) (b : ℕ) → G 13 → G 10 → is_break b ≡ true → G b
unfolding is_break
by-break G b f g e = by_bool (eqb b 13) (λ t. rw (eqb-true b 13 t) f) (λ t. rw (eqb-true b 10 (rw t at e)) g)

pub line-inline : Inline line_end
line-inline = count-inline not_break (λ b e. rw e)

pub blanks-inline : Inline blanks
unfolding blanks dropped is_blank
blanks-inline = count-inline (dropped Blanks) (λ b. by-break (λ c. is_blank c ≡ false) b refl refl)

pub plain-inline : (also : ℕ) → Inline (plain_end also)
unfolding plain_end stops
plain-inline also = count-inline (λ b. not (stops also b)) (λ b e. rw e)

closing-inline : (escaped : Bool) → Inline (closing escaped)
unfolding closing
closing-inline escaped = record {
  within = below escaped;
  same = λ t r h.
      to-break (λ r. (escaped : Bool) → closing escaped (r ++ t) ≡ closing escaped r)
      (λ b r e escaped. rw e) (λ b r e i escaped. rw (i (eqb b 92 && not escaped))) r h escaped;
}
  where
    below : (escaped : Bool) (r : List ℕ) → closing escaped r ≤ line_end r
    below escaped [] = omega arith
    below escaped (b ∷ r) =
        by_bool (is_break b)
        (λ e. rw e (omega arith))
        (λ e.
        let i = below (eqb b 92 && not escaped) r in
        rw e (on-cond (λ k. k ≤ 1 + line_end r) (eqb b 34 && not escaped) (λ t. omega arith) (λ t. omega arith)))

quotes-inline : Inline quotes_end
unfolding quotes_end ends_in_break is_break
quotes-inline = record { within = below; same = alike }
  where
    below : (r : List ℕ) → quotes_end r ≤ line_end r
    below [] = omega arith
    below (b ∷ r) =
        by_bool (eqb b 34)
        (λ e. rw (eqb-true b 34 e) (omega (arith, (closing-inline false).within r)))
        (λ e. rw e (omega arith))

    alike : (t r : List ℕ) → Ended r → quotes_end (r ++ t) ≡ quotes_end r
    alike t [] h = absurd cc
    alike t (b ∷ r) h =
        by_bool (eqb b 34)
        (λ e. rw e (ap suc ((closing-inline false).same t r (rw (eqb-true b 34 e) at h))))
        (λ e. rw e)

pub text-inline : (also : ℕ) → Inline (text_end also)
unfolding text_end
text-inline also = and_then quotes-inline (plain-inline also)

pub eq-inline : Inline eq_size
unfolding eq_size is_break
eq-inline = record {
  within = below;
  same = λ t. to-break (λ r. eq_size (r ++ t) ≡ eq_size r) (λ b r e. refl) (λ b r e i. refl);
}
  where
    below : (r : List ℕ) → eq_size r ≤ line_end r
    below [] = omega arith
    below (b ∷ r) = by_bool (eqb b 61) (λ e. rw (eqb-true b 61 e) (omega arith)) (λ e. rw e (omega arith))

-- What a text begins with, where that has no break

pub starts-line : (q r : List ℕ) → line_end q ≡ length q → starts_with q r ≡ true → length q ≤ line_end r
unfolding starts_with
starts-line [] r f e = omega arith
starts-line (a ∷ q) [] f e = absurd cc
starts-line (a ∷ q) (b ∷ r) f e =
    by_bool (is_break a)
    (λ t. let g = rw t at f in absurd (omega arith))
    (λ t.
    let g = rw t at f in
    let l = starts-line q r (omega arith) (and_right (eqb a b) (starts_with q r) e) in
    rw (← (eqb-true a b (and_left (eqb a b) (starts_with q r) e)), t) (omega arith))

pub starts-same : (q t r : List ℕ) → line_end q ≡ length q → Ended r → starts_with q (r ++ t) ≡ starts_with q r
unfolding starts_with ends_in_break
starts-same [] t r f h = refl
starts-same (a ∷ q) t [] f h = absurd cc
starts-same (a ∷ q) t (b ∷ r) f h =
    by_bool (eqb a b)
    (λ e.
    by_bool (is_break b)
    (λ n. let g = rw (eqb-true a b e, n) at f in absurd (omega arith))
    (λ n. let g = rw (eqb-true a b e, n) at f in rw (starts-same q t r (omega arith) (rw n at h))))
    (λ e. rw e)
