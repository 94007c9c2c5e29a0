-- Laws of the pieces of a multiline value. The loop of `multiline_len` goes piece by piece, the definitions go byte by byte with
-- what stands before carried along; `Passed` is the loop's invariant. Also the bounds of `multiline_end` and of `line_count`.
use Prim.Native.Nat.{ℕ, suc, ◌+◌, ◌-◌, ◌≤◌, ◌<◌}
use mathlib.Core.Path.{◌≡◌, refl, sym, ap}
use mathlib.Core.List.{List, [], ◌∷◌}
use mathlib.Core.Bool.{Bool, true, false, cond, not, ◌&&◌, ◌||◌, and-true, and-false}
use native.Mathlib.Nat.{add-zero, zero-add, suc-add}
use native.Mathlib.Numerals.{one-add, sub-one}
use native.Mathlib.Omega.{arith}
use lib.Dec.{eqb}
use lib.ListN.{length, take, drop, length-drop, drop_of_length-le}
use lib.Seq.{length-take-le, take-nil, drop-drop}
use borrow.Author.Tests.{eqb-true}
use Rattle.std.specs.Prelude.{Some, slice_get}
use Rattle.std.specs.Option.{option_eq}
use Rattle.std.specs.Cmp.Lexicographic.{pointwise}
use Rattle.text.specs.Bytes.{is_break, line_end}
use Rattle.text.proofs.Cases.{by_bool, on-cond}
use Rattle.tokenizer_scans.specs.Scans.{piece, piece_len, belongs_to, multiline_end, breaks_after, is_lf, ends_in_cr, ends_in_break, line_count, lines_of}

-- The length of a piece, from the line's end.
pub piece_break : (s : List ℕ) → line_end s < length s → piece_len s ≡ suc (line_end s)
unfolding piece piece_len
piece_break [] h = absurd (omega arith)
piece_break (b ∷ r) h = by_bool (is_break b) (λ e. rw e) (λ e. rw (e, one-add) (ap suc (piece_break r (let k = rw e at h in omega arith))))

pub piece_all : (s : List ℕ) → length s ≤ line_end s → piece_len s ≡ line_end s
unfolding piece piece_len
piece_all [] h = refl
piece_all (b ∷ r) h =
    by_bool (is_break b) (λ e. let k = rw e at h in absurd (omega arith)) (λ e. rw (e, one-add) (ap suc (piece_all r (let k = rw e at h in omega arith))))

pub piece-le : (s : List ℕ) → piece_len s ≤ length s
unfolding piece piece_len
piece-le [] = omega arith
piece-le (b ∷ r) = by_bool (is_break b) (λ e. rw e (omega arith)) (λ e. rw e (omega (arith, piece-le r)))

piece-some : (s : List ℕ) → 0 < length s → 0 < piece_len s
unfolding piece piece_len
piece-some [] h = h
piece-some (b ∷ r) h = omega arith

-- as many bytes can be taken
pub piece_in : (s : List ℕ) {n : ℕ} → n ≡ piece_len s → n ≡ length (take n s)
piece_in s e = sym (length-take-le _ _ (rw e (piece-le s)))

-- the piece at a position
pub piece_at : (len : ℕ) (s : List ℕ) → len < length s → {n : ℕ} → n ≡ piece_len (drop len s)
    → (0 < n) × (len + n ≤ length s)
piece_at len s h e =
    rw e (piece-some (drop len s) (rw length-drop (omega arith)), omega (arith, piece-le (drop len s), length-drop len s))

piece-take : (s : List ℕ) → take (piece_len s) s ≡ piece s
unfolding piece piece_len
piece-take [] = refl
piece-take (b ∷ r) = by_bool (is_break b) (λ e. rw e) (λ e. rw e (ap (λ t. b ∷ t) (piece-take r)))

-- The multiline_end, at the start of a piece.
module _ (indent : List ℕ) where
  -- inside a piece it goes on to the piece's end
  inside : (s : List ℕ) → multiline_end indent true s ≡ piece_len s + multiline_end indent false (drop (piece_len s) s)
  unfolding piece piece_len multiline_end
  inside [] = refl
  inside (b ∷ r) = by_bool (is_break b) (λ e. rw (e, one-add)) (λ e. rw (e, suc-add) (ap suc (inside r)))

  -- a piece that does not belong ends it
  outside : (s : List ℕ) → belongs_to indent (piece s) ≡ false → multiline_end indent false s ≡ 0
  unfolding multiline_end
  outside [] e = refl
  outside (b ∷ r) e = rw e

  -- one that belongs is part of it
  onward : (s : List ℕ) → belongs_to indent (piece s) ≡ true → multiline_end indent false s ≡ piece_len s + multiline_end indent false (drop (piece_len s) s)
  unfolding multiline_end
  onward [] e = inside []
  onward (b ∷ r) e = rw e (inside (b ∷ r))

  pub extent-le : (within : Bool) (s : List ℕ) → multiline_end indent within s ≤ length s
  unfolding multiline_end
  extent-le within [] = omega arith
  extent-le within (b ∷ r) =
      on-cond (λ n. n ≤ suc (length r)) (within || belongs_to indent (piece (b ∷ r))) (λ _. omega (arith, extent-le (not (is_break b)) r)) (λ _. omega arith)

-- The tests of a piece, as the code has them.
pub lone_lf : (s : List ℕ) → pointwise eqb s (10 ∷ []) ≡ is_lf s
unfolding is_lf
lone_lf [] = refl
lone_lf (b ∷ []) = rw and-true
lone_lf (b ∷ c ∷ r) = rw and-false

last-cr : (before : Bool) (b : ℕ) (r : List ℕ)
    → ends_in_cr before (b ∷ r) ≡ option_eq eqb (slice_get (b ∷ r) (length r)) (Some 13)
unfolding ends_in_cr
last-cr before b [] = refl
last-cr before b (c ∷ r) = last-cr (eqb b 13) c r

pub cr_last : (s : List ℕ) → ends_in_cr false s ≡ option_eq eqb (slice_get s (length s - 1)) (Some 13)
unfolding ends_in_cr
cr_last [] = refl
cr_last (b ∷ r) = rw sub-one (last-cr false b r)

-- The lines that the pieces of a text add, where cr says whether a CR stands before.
unfoldable pub lines_after : Bool → List ℕ → ℕ
lines_after cr s = breaks_after cr s + cond (ends_in_break true s) 0 1

by-break {ℓ} : {G : Type ℓ} (b : ℕ) → (b ≡ 13 → G) → (b ≡ 10 → G) → (eqb b 13 ≡ false → eqb b 10 ≡ false → is_break b ≡ false → G) → G
unfolding is_break
by-break b f g h =
    by_bool (eqb b 13) (λ e. f (eqb-true b 13 e)) (λ e. by_bool (eqb b 10) (λ k. g (eqb-true b 10 k)) (λ k. h e k (rw (e, k, is_break))))

lines-le : (cr broken : Bool) (s : List ℕ) → breaks_after cr s + cond (ends_in_break broken s) 0 1 ≤ length s + cond broken 0 1
unfolding breaks_after ends_in_break is_break
lines-le cr broken [] = omega arith
lines-le cr broken (b ∷ r) =
    by-break b
    (λ e. rw e (omega (arith, lines-le true true r)))
    (λ e. rw e (by_bool cr (λ t. rw t (omega (arith, lines-le false true r))) (λ t. rw t (omega (arith, lines-le false true r)))))
    (λ e f _. rw (e, f) (omega (arith, lines-le false false r)))

pub line_count-le : (s : List ℕ) → line_count s ≤ length s
unfolding line_count
line_count-le s = omega (arith, lines-le false true s)

-- the first piece adds a line, but not the LF of a CR LF; the lines of the next n bytes follow
abbrev FirstLine : Bool → ℕ → List ℕ → Type 0
FirstLine cr n s =
    lines_after cr (take (piece_len s + n) s) ≡ cond (cr && is_lf (piece s)) 0 1 + lines_after (ends_in_cr false (piece s)) (take n (drop (piece_len s) s))

first-line : (cr : Bool) (n : ℕ) (s : List ℕ) → 0 < length s → FirstLine cr n s
unfolding piece piece_len is_lf ends_in_cr lines_after breaks_after ends_in_break is_break
first-line cr n [] h = absurd (omega arith)
first-line cr n (b ∷ r) h =
    by-break b
    (λ e. rw (e, one-add, and-false) (omega arith))
    (λ e. rw (e, one-add) (by_bool cr (λ t. rw t (omega arith)) (λ t. rw t (omega arith))))
    (later r (first-line false n r))
  where
    later : (r : List ℕ) → (0 < length r → FirstLine false n r) → eqb b 13 ≡ false → eqb b 10 ≡ false → is_break b ≡ false → FirstLine cr n (b ∷ r)
    later [] i e f g = rw (g, one-add, take-nil, e, f, and-false)
    later (c ∷ r) i e f g = rw (g, suc-add, suc-add, and-false, e, f) (rw suc-add at (i (omega arith)))

-- The bytes of the value in front.
abbrev pub value : List ℕ → List ℕ → List ℕ
value indent s = take (multiline_end indent false s) s

next-line : (indent : List ℕ) (cr : Bool) (s : List ℕ) → 0 < length s → belongs_to indent (piece s) ≡ true
    → lines_after cr (value indent s) ≡ cond (cr && is_lf (piece s)) 0 1 + lines_after (ends_in_cr false (piece s)) (value indent (drop (piece_len s) s))
next-line indent cr s h b = rw (onward indent s b) (first-line cr _ s h)

-- The first len bytes of s are pieces that belong and add count lines, and cr says whether they end in CR.
pub record Passed (indent s : List ℕ) (len count : ℕ) (cr : Bool) : Type 0 where
  pub within : len ≤ length s
  pub few : count ≤ len
  pub bytes : multiline_end indent false s ≡ len + multiline_end indent false (drop len s)
  pub lines : line_count (value indent s) ≡ count + lines_after cr (value indent (drop len s))

pub none_passed : (indent s : List ℕ) → Passed indent s 0 0 false
unfolding line_count lines_after
none_passed indent s = record { within = omega arith; few = omega arith; bytes = rw zero-add; lines = rw zero-add }

module _ (indent s : List ℕ) {len count : ℕ} {cr : Bool} (p : Passed indent s len count cr) where
  more-passed : len < length s → belongs_to indent (piece (drop len s)) ≡ true → {lone : Bool} → lone ≡ (cr && is_lf (piece (drop len s)))
      → {count' : ℕ} → count' ≡ count + cond lone 0 1 → {cr' : Bool} → cr' ≡ ends_in_cr false (piece (drop len s))
      → Passed indent s (len + piece_len (drop len s)) count' cr'
  more-passed h b {lone} l c k =
      let rest : List ℕ = drop len s in
      let a = piece_at len s h refl in
      record {
        within = a.1;
        few = rw c (on-cond (λ n. count + n ≤ len + piece_len rest) lone (λ _. omega (arith, p.few)) (λ _. omega (arith, p.few, a.0)));
        bytes = rw (← drop-drop (piece_len rest) len s) (omega (arith, p.bytes, onward indent rest b));
        lines = rw (k, c, l, ← drop-drop (piece_len rest) len s) (omega (arith, p.lines, next-line indent cr rest (rw length-drop (omega arith)) b));
      }

  -- one more piece: n its length, lone whether it is the LF of a CR LF
  pub again : len < length s → {n : ℕ} → n ≡ piece_len (drop len s) → belongs_to indent (take n (drop len s)) ≡ true
      → {lone : Bool} → lone ≡ (cr && is_lf (take n (drop len s))) → {count' : ℕ} → count' ≡ count + cond lone 0 1
      → {cr' : Bool} → cr' ≡ ends_in_cr false (take n (drop len s)) → Passed indent s (len + n) count' cr'
  again h e = rw (e, piece-take (drop len s)) (more-passed h)

  done : multiline_end indent false (drop len s) ≡ 0 → lines_of indent s ≡ record { len = len; count = count }
  unfolding lines_of lines_after breaks_after ends_in_break
  done e = rw (p.lines, p.bytes, e, add-zero len, add-zero count)

  -- the next piece does not belong
  pub stop : {n : ℕ} → n ≡ piece_len (drop len s) → belongs_to indent (take n (drop len s)) ≡ false → lines_of indent s ≡ record { len = len; count = count }
  stop e b = done (outside indent (drop len s) (rw (e, piece-take) at b))

  -- no piece is left
  pub end : length s ≤ len → lines_of indent s ≡ record { len = len; count = count }
  unfolding multiline_end
  end h = done (rw (drop_of_length-le s h))
