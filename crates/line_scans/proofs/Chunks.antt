-- A slice in chunks: an element of a chunk is the slice's, and a chunk of eight bytes is a word of them.
use Prim.Native.Nat.{ℕ, zero, suc, ◌+◌, ◌*◌, ◌/◌, ◌<◌, ◌≤◌}
use mathlib.Core.Path.{◌≡◌, ap, ◌∙◌}
use mathlib.Core.List.{List, []}
use native.Mathlib.Nat.{zero-add, mul-suc, mul-zero}
use native.Mathlib.Omega.{arith}
use lib.ListN.{get_or, drop, length}
use Rattle.std.specs.Simd.{first_chunks}
use Rattle.std.specs.Int.{w64, from_le_bytes}
use Rattle.std.proofs.lemmas.List.{get_or-take, get_or-drop}
use Rattle.line_scans.specs.Words.{byte_at, word_of}

pub chunk : {X : Type 0} (n m : ℕ) (xs : List X) (k j : ℕ) (d : X) → k < m → j < n → get_or (get_or (first_chunks n m xs) k []) j d ≡ get_or xs (n * k + j) d
chunk n zero xs k j d l h = absurd (omega arith)
chunk n (suc m) xs zero j d l h = rw (mul-zero, zero-add) (get_or-take n xs j d h)
chunk n (suc m) xs (suc k) j d l h =
    chunk n m (drop n xs) k j d (omega arith) h ∙ get_or-drop n xs (n * k + j) d ∙ ap (λ i. get_or xs i d) (rw mul-suc (omega arith))

pub word : (s bytes : List ℕ) (i : ℕ) → ((j : ℕ) → j < 8 → get_or bytes j 0 ≡ get_or s (i + j) 0) → from_le_bytes w64 bytes ≡ word_of (byte_at s i) 8
unfolding word_of
word s bytes i e =
    rw (
      e 0 (omega arith),
      e 1 (omega arith),
      e 2 (omega arith),
      e 3 (omega arith),
      e 4 (omega arith),
      e 5 (omega arith),
      e 6 (omega arith),
      e 7 (omega arith),
    ) (omega arith)

-- the word b of the pair k
pub paired : (s : List ℕ) (c : List (List ℕ)) (p : List (List (List ℕ))) → c ≡ first_chunks 8 (length s / 8) s → length c ≡ length s / 8 → p ≡ first_chunks 2 (length c / 2) c
    → (k : ℕ) → 16 * k + 16 ≤ length s → (b i : ℕ) → b < 2 → i ≡ 16 * k + 8 * b → from_le_bytes w64 (get_or (get_or p k []) b []) ≡ word_of (byte_at s i) 8
paired s c p e n f k l b i h o =
    word s _ i (λ j q.
    ap (λ x. get_or (get_or (get_or x k []) b []) j 0) f
    ∙ ap (λ x. get_or x j 0) (chunk 2 (length c / 2) c k b [] (omega (arith, n)) h)
    ∙ ap (λ x. get_or (get_or x (2 * k + b) []) j 0) e
    ∙ chunk 8 (length s / 8) s (2 * k + b) j 0 (omega arith) q
    ∙ ap (λ m. get_or s m 0) (omega (arith, o)))

-- the word k
pub single : (s : List ℕ) (c : List (List ℕ)) → c ≡ first_chunks 8 (length s / 8) s → (k : ℕ) → 8 * k + 8 ≤ length s
    → from_le_bytes w64 (get_or c k []) ≡ word_of (byte_at s (8 * k)) 8
single s c e k h = word s _ (8 * k) (λ j q. ap (λ x. get_or (get_or x k []) j 0) e ∙ chunk 8 (length s / 8) s k j 0 (omega arith) q)
