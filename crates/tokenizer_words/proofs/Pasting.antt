-- Writing over a list from a place on: with room and with none, nothing, all at once, one more, and next to those that stand at the front.
use Prim.Native.Nat.{ℕ, ◌+◌, ◌≤◌, ◌<◌}
use mathlib.Core.Path.{◌≡◌}
use mathlib.Core.List.{List, [], ◌∷◌, ◌++◌, append-nil, append_assoc}
use native.Mathlib.Nat.{add-zero, zero-add}
use native.Mathlib.Numerals.{add-one}
use native.Mathlib.Omega.{arith}
use lib.ListN.{length, take, drop, get_or, set, length-append, take-append-drop}
use lib.Seq.{drop-cons, drop-drop, drop-append-add, take-append_seam, set_at, append_snoc, length-take-le}
use borrow.Author.Tests.{lt-leb, le-leb}
use Rattle.tokenizer_words.specs.Words.{pasted, pasted_in}

pub pasted-none : (n : ℕ) (w : List ℕ) → w ≡ pasted [] n w
unfolding pasted
pasted-none n w = rw (append-nil, add-zero, take-append-drop)

-- s has room
pub pasted-room : (s w : List ℕ) (n : ℕ) → n + length s ≤ length w → pasted_in s n w ≡ pasted s n w
unfolding pasted_in
pasted-room s w n h = rw (le-leb (n + length s) (length w) h)

-- s has none
pub pasted-no-room : (s w : List ℕ) (n : ℕ) → length w < n + length s → w ≡ pasted_in s n w
unfolding pasted_in
pasted-no-room s w n h = rw (lt-leb (n + length s) (length w) h)

-- s copied over the k words from the nth on, as copy_from_slice does
pub copied_over : (s w c : List ℕ) (n k : ℕ) → c ≡ s → k ≡ length s → n + length s ≤ length w
    → take n w ++ (c ++ drop k (drop n w)) ≡ pasted_in s n w
unfolding pasted
copied_over s w c n k e f h = rw (e, f, drop-drop, pasted-room s w n h, append_assoc)

-- one more after the i that are written
pub written-more : {A : Type 0} (p l : List A) (a z : A) (i : ℕ) → length p ≡ i → i < length l
    → set (p ++ drop i l) i a ≡ p ++ (a ∷ []) ++ drop (i + 1) l
written-more p l a z i e h = rw (drop-cons l i z h, set_at p (get_or l i z) _ a i e, append_snoc, add-one)

-- one word more after the k of s
pub pasted-more : (s w : List ℕ) (n k a : ℕ) → length s ≡ k → n + k < length w → set (pasted s n w) (n + k) a ≡ pasted (s ++ (a ∷ [])) n w
unfolding pasted
pasted-more s w n k a e h =
    let l : length (take n w ++ s) ≡ n + k = rw (length-append, length-take-le n w (omega arith), e) in
    let m : n + length (s ++ (a ∷ [])) ≡ n + k + 1 = rw length-append (omega arith) in
    rw (m, e, written-more (take n w ++ s) w a 0 (n + k) l h, append_assoc (take n w) s (a ∷ []))

pub pasted-front : (s w : List ℕ) → pasted s 0 w ≡ s ++ drop (length s) w
unfolding pasted
pasted-front s w = rw zero-add

pub pasted-after : (a b w : List ℕ) (n : ℕ) → length a ≡ n → pasted b n (a ++ drop n w) ≡ a ++ b ++ drop (n + length b) w
unfolding pasted
pasted-after a b w n e = rw (← e, take-append_seam, drop-append-add, drop-drop)
