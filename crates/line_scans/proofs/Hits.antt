-- The hits of a word. Every operation goes byte by byte, since no carry leaves a byte, and of one byte it is a table of 256
-- rows; so the hits are again a word of bytes, and counting its trailing zero bits finds the first that is not 0.
use Prim.Native.Nat.{ℕ, zero, suc, ◌+◌, ◌*◌, ◌/◌, ◌%◌, ◌^◌, ◌<◌}
use Prim.Native.Char.{code as byte}
use mathlib.Core.Path.{◌≡◌, refl, sym, ap, ap₂, ◌∙◌}
use mathlib.Core.List.{List}
use mathlib.Core.Bool.{Bool, true, false, cond}
use native.Mathlib.Nat.{add-zero, zero-add, suc-add, mul-one}
use native.Mathlib.Omega.{arith}
use lib.Dec.{eqb}
use lib.ListN.{get_or}
use lib.Bits.{shifted_half, shifted_even, bit_and, bit_xor, and_block, or_block, xor_block, and_le_l, and_le_r, and_lt, or_lt, xor_lt, xor_self, xor_add_and}
use lib.Count.{count_trailing_zeros}
use borrow.Author.Tests.{eqb-true, eqb-false, ne_eqb}
use Rattle.text_scans.specs.Eights.{passing}
use Rattle.text_scans.proofs.Passing.{passes}
use Rattle.line_scans.specs.Words.{byte_at, word_of, each, marked_in, hits_of, in_line, is_space}

-- the first n of some bytes, if these are
abbrev Bytes : (ℕ → ℕ) → Type 0
Bytes f = (i : ℕ) → f i < 2 ^ 8

-- A lowest byte that is not 0 has fewer than eight trailing zeros, whatever stands above it; one that is 0 has eight.
below : (j k w b : ℕ) → b < 2 ^ j → 0 < b → count_trailing_zeros (j + k) (w * 2 ^ j + b) < j
unfolding count_trailing_zeros
below zero k w b l h = absurd (omega arith)
below (suc j) k w b l h = by (b % 2) refl (below j k w (b / 2) (omega arith))
  where
    m : ℕ
    m = w * 2 ^ suc j

    odd : (m + b) % 2 ≡ b % 2
    odd = omega (arith, shifted_even w j)

    half : (m + b) / 2 ≡ w * 2 ^ j + b / 2
    half = omega (arith, shifted_even w j, shifted_half w j)

    by : (d : ℕ) → b % 2 ≡ d → (0 < b / 2 → count_trailing_zeros (j + k) (w * 2 ^ j + b / 2) < j) → count_trailing_zeros (suc j + k) (m + b) < suc j
    by zero q f = rw (suc-add j k, odd, q, half) (let g = f (omega (arith, q)) in omega arith)
    by (suc d) q f = rw (suc-add j k, odd, q) (omega arith)

pub some : (w : ℕ) → w < 2 ^ 64 → 0 < w → count_trailing_zeros 64 w / 8 < 8
some w l h = let g : count_trailing_zeros 64 w < 64 = rw zero-add at (below 64 0 0 w l h) in omega arith

zeros : (j k w : ℕ) → count_trailing_zeros (j + k) (w * 2 ^ j) ≡ j + count_trailing_zeros k w
unfolding count_trailing_zeros
zeros zero k w = rw (zero-add k, mul-one w, zero-add (count_trailing_zeros k w))
zeros (suc j) k w = rw (suc-add j k, shifted_even w j, shifted_half w j, zeros j k w) (sym (suc-add j (count_trailing_zeros k w)))

-- the first byte that is not 0; n where each is
pub first : (f : ℕ → ℕ) (n : ℕ) → Bytes f → count_trailing_zeros (8 * n) (word_of f n) / 8 ≡ passing (λ i. eqb (f i) 0) n
unfolding word_of passing count_trailing_zeros
first f zero h = refl
first f (suc n) h = by (f 0) refl (first (λ i. f (suc i)) n (λ i. h (suc i)))
  where
    w : ℕ
    w = word_of (λ i. f (suc i)) n

    z : 8 * suc n ≡ 8 + 8 * n
    z = omega arith

    by : {m : ℕ} (b : ℕ) → f 0 ≡ b → count_trailing_zeros (8 * n) w / 8 ≡ m → count_trailing_zeros (8 * suc n) (w * 2 ^ 8 + f 0) / 8 ≡ cond (eqb (f 0) 0) (suc m) 0
    by zero q e =
        let g : (8 + count_trailing_zeros (8 * n) w) / 8 ≡ suc (count_trailing_zeros (8 * n) w / 8) = omega arith in
        rw (z, q, add-zero (w * 2 ^ 8), zeros 8 (8 * n) w) (g ∙ ap suc e)
    by (suc b) q e =
        let g = below 8 (8 * n) w (f 0) (h 0) (omega (arith, q)) in
        rw (z, ne_eqb (f 0) 0 (λ r. omega (arith, q))) (omega arith)

-- the row of a byte: 80 where it is CR or LF
abbrev row : ℕ → Bool
row b = eqb (hits_of 1 b) (cond (in_line b) 0 0x80)

table : passing row 256 ≡ 256
unfolding passing each
table = refl

hit : (b : ℕ) → b < 2 ^ 8 → hits_of 1 b ≡ cond (in_line b) 0 0x80
hit b l = eqb-true (hits_of 1 b) _ (passes row 256 b (rw table l))

-- one byte more, the lowest
marked-lt : (x : ℕ) → x < 2 ^ 8 → marked_in 1 x < 2 ^ 8
unfolding each
marked-lt x l = or_lt 8 (bit_and x 0x7F + 0x7F) x (omega (arith, and_le_r x 0x7F)) l

marked-block : (n w b : ℕ) → b < 2 ^ 8 → marked_in (suc n) (w * 2 ^ 8 + b) ≡ marked_in n w * 2 ^ 8 + marked_in 1 b
unfolding each
marked-block n w b l =
    let m = each n 0x7F in
    let s : bit_and w m * 2 ^ 8 + bit_and b 0x7F + (m * 2 ^ 8 + 0x7F) ≡ (bit_and w m + m) * 2 ^ 8 + (bit_and b 0x7F + 0x7F) = omega arith in
    rw (and_block 8 w m b 0x7F l (omega arith), s) (or_block 8 (bit_and w m + m) w (bit_and b 0x7F + 0x7F) b (omega (arith, and_le_r b 0x7F)) l)

hits-block : (n w b : ℕ) → b < 2 ^ 8 → hits_of (suc n) (w * 2 ^ 8 + b) ≡ hits_of n w * 2 ^ 8 + hits_of 1 b
unfolding each
hits-block n w b l =
    let x = bit_xor b 13 in
    let y = bit_xor b 10 in
    let v = bit_xor w (each n 13) in
    let z = bit_xor w (each n 10) in
    let i = marked-lt x (xor_lt 8 b 13 l (omega arith)) in
    let j = marked-lt y (xor_lt 8 b 10 l (omega arith)) in
    let both = bit_and (marked_in 1 x) (marked_in 1 y) in
    rw (
      xor_block 8 w (each n 13) b 13 l (omega arith),
      xor_block 8 w (each n 10) b 10 l (omega arith),
      marked-block n v x (xor_lt 8 b 13 l (omega arith)),
      marked-block n z y (xor_lt 8 b 10 l (omega arith)),
      and_block 8 (marked_in n v) (marked_in n z) (marked_in 1 x) (marked_in 1 y) i j,
      and_block 8 _ (each n 0x80) both 0x80 (and_lt 8 _ _ i j) (omega arith),
    )
    (xor_block 8 _ (each n 0x80) (bit_and both 0x80) 0x80 (omega (arith, and_le_r both 0x80)) (omega arith))

-- the hits of a word of bytes, as bytes
abbrev hit_at : (ℕ → ℕ) → ℕ → ℕ
hit_at f i = cond (in_line (f i)) 0 0x80

hit-lt : (t : Bool) → cond t 0 0x80 < 2 ^ 8
hit-lt true = omega arith
hit-lt false = omega arith

none : (t : Bool) → eqb (cond t 0 0x80) 0 ≡ t
none true = refl
none false = refl

hits : (f : ℕ → ℕ) (n : ℕ) → Bytes f → hits_of n (word_of f n) ≡ word_of (hit_at f) n
unfolding word_of each
hits f zero h = refl
hits f (suc n) h =
    hits-block n (word_of (λ i. f (suc i)) n) (f 0) (h 0)
    ∙ ap₂ (λ x y. x * 2 ^ 8 + y) (hits (λ i. f (suc i)) n (λ i. h (suc i))) (hit (f 0) (h 0))

-- Xor with the same byte everywhere.
xor-each : (f : ℕ → ℕ) (n c : ℕ) → Bytes f → c < 2 ^ 8 → bit_xor (word_of f n) (each n c) ≡ word_of (λ i. bit_xor (f i) c) n
unfolding word_of each
xor-each f zero c h l = refl
xor-each f (suc n) c h l =
    xor_block 8 _ (each n c) (f 0) c (h 0) l ∙ ap (λ x. x * 2 ^ 8 + bit_xor (f 0) c) (xor-each (λ i. f (suc i)) n c (λ i. h (suc i)) l)

-- two bytes are the same where they differ in no bit
same : (a b : ℕ) → eqb (bit_xor a b) 0 ≡ eqb a b
same a b = by (eqb a b) refl
  where
    by : (t : Bool) → eqb a b ≡ t → eqb (bit_xor a b) 0 ≡ t
    by true e = let q : a ≡ b = eqb-true a b e in rw (q, xor_self b)
    by false e =
        ne_eqb (bit_xor a b) 0 (λ q. eqb-false a b e (omega (arith, q, xor_add_and a b, and_le_l a b, and_le_r a b)))

places : (t u : ℕ → Bool) (n : ℕ) → ((i : ℕ) → t i ≡ u i) → passing t n ≡ passing u n
unfolding passing
places t u zero e = refl
places t u (suc n) e = ap₂ (λ b m. cond b (suc m) 0) (e 0) (places (λ i. t (suc i)) (λ i. u (suc i)) n (λ i. e (suc i)))

-- The first of eight bytes that fails, in their word: by its hits, and by what differs from spaces.
module _ (s : List ℕ) (i : ℕ) (known : (j : ℕ) → get_or s j 0 < 2 ^ 8) where
  bytes : Bytes (byte_at s i)
  bytes j = known (i + j)

  pub first-break : {w : ℕ} → w ≡ hits_of 8 (word_of (byte_at s i) 8) → count_trailing_zeros 64 w / 8 ≡ passing (λ j. in_line (byte_at s i j)) 8
  first-break e =
      ap (λ x. count_trailing_zeros 64 x / 8) (e ∙ hits (byte_at s i) 8 bytes)
      ∙ first (hit_at (byte_at s i)) 8 (λ j. hit-lt (in_line (byte_at s i j)))
      ∙ places _ _ 8 (λ j. none (in_line (byte_at s i j)))

  pub first-other : {w : ℕ} → w ≡ bit_xor (word_of (byte_at s i) 8) (each 8 (byte " ")) → count_trailing_zeros 64 w / 8 ≡ passing (λ j. is_space (byte_at s i j)) 8
  first-other e =
      ap (λ x. count_trailing_zeros 64 x / 8) (e ∙ xor-each (byte_at s i) 8 32 bytes (omega arith))
      ∙ first (λ j. bit_xor (byte_at s i j) 32) 8 (λ j. xor_lt 8 (byte_at s i j) 32 (bytes j) (omega arith))
      ∙ places _ _ 8 (λ j. same (byte_at s i j) 32)
