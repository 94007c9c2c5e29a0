-- Text placed in a buffer: one text after another, one byte more, and from the first byte on.
use Prim.Native.Nat.{ℕ, suc, ◌+◌, ◌≤◌, ◌<◌}
use mathlib.Core.Path.{◌≡◌, refl, sym, ap, ◌∙◌}
use mathlib.Core.List.{List, [], ◌∷◌, ◌++◌}
use native.Mathlib.Nat.{add-zero}
use native.Mathlib.Numerals.{add-one}
use native.Mathlib.Omega.{arith}
use lib.ListN.{length, take, get_or, set, length-append, length-set}
use lib.Seq.{set_out, take-nil, take-suc, length-take-le}
use Rattle.listing_text.specs.Text.{placed, filled}

pub placed_cons : (b : ℕ) (s : List ℕ) (n : ℕ) (o : List ℕ) → placed (b ∷ s) n o ≡ placed s (n + 1) (placed (b ∷ []) n o)
unfolding placed
placed_cons b s n o = refl

pub placed_append : (a b : List ℕ) (n : ℕ) (o : List ℕ) → placed (a ++ b) n o ≡ placed b (n + length a) (placed a n o)
unfolding placed
placed_append [] b n o = rw add-zero
placed_append (x ∷ a) b n o =
    let e : n + 1 + length a ≡ n + suc (length a) = omega arith in
    placed_append a b (n + 1) (set o n x) ∙ ap (λ k. placed b k (placed a (n + 1) (set o n x))) e

-- a text was written from the place n on: m is the place behind it, and the buffer o became p
pub record Wrote (s : List ℕ) (n m : ℕ) (o p : List ℕ) : Type 0 where
  pub place : m ≡ n + length s
  pub buffer : p ≡ placed s n o

pub wrote : (s : List ℕ) (n : ℕ) (o : List ℕ) {m : ℕ} {p : List ℕ} → m ≡ n + length s → p ≡ placed s n o → Wrote s n m o p
wrote s n o e f = record { place = e; buffer = f }

-- one text, and another behind it
pub both : {a b : List ℕ} {n m k : ℕ} {o p q : List ℕ} → Wrote a n m o p → Wrote b m k p q → Wrote (a ++ b) n k o q
both {a = a} {b = b} {n = n} {o = o} v w = record {
  place = rw length-append (omega arith);
  buffer = w.buffer ∙ rw (v.place, v.buffer, placed_append a b n o);
}

pub placed-length : (s : List ℕ) (n : ℕ) (o : List ℕ) → length (placed s n o) ≡ length o
unfolding placed
placed-length [] n o = refl
placed-length (b ∷ s) n o = placed-length s (n + 1) (set o n b) ∙ length-set o n b

-- one byte more of s
pub placed_next : (s : List ℕ) (n i : ℕ) (o : List ℕ) → i < length s
    → set (placed (take i s) n o) (n + i) (get_or s i 0) ≡ placed (take (i + 1) s) n o
unfolding placed
placed_next s n i o h =
    rw (add-one i, take-suc s i 0 h, placed_append (take i s) (get_or s i 0 ∷ []) n o, length-take-le i s (omega arith))

-- which finds no room
pub placed_past : (s : List ℕ) (n i : ℕ) (o : List ℕ) → i < length s → length (placed (take i s) n o) ≤ n + i
    → placed (take i s) n o ≡ placed (take (i + 1) s) n o
placed_past s n i o h l = sym (set_out _ _ (get_or s i 0) l) ∙ placed_next s n i o h

-- behind the first byte
placed-behind : (s : List ℕ) (n x : ℕ) (o : List ℕ) → placed s (suc n) (x ∷ o) ≡ x ∷ placed s n o
unfolding placed
placed-behind [] n x o = refl
placed-behind (b ∷ s) n x o = let e : suc n + 1 ≡ suc (n + 1) = omega arith in rw e (placed-behind s (n + 1) x (set o n b))

placed-nowhere : (s : List ℕ) (n : ℕ) → placed s n [] ≡ []
unfolding placed
placed-nowhere [] n = refl
placed-nowhere (b ∷ s) n = placed-nowhere s (n + 1)

pub placed-filled : (s o : List ℕ) → placed s 0 o ≡ filled s o
unfolding placed filled
placed-filled [] o = rw take-nil
placed-filled (b ∷ s) [] = placed-nowhere s 1
placed-filled (b ∷ s) (x ∷ o) = placed-behind s 0 b o ∙ ap (◌∷◌ b) (placed-filled s o)
