-- A buffer whose first bytes are put there one after the other.
use Prim.Native.Nat.{ℕ, suc, ◌+◌, ◌-◌, ◌≤◌, ◌<◌}
use mathlib.Core.Path.{◌≡◌, sym, ◌∙◌}
use mathlib.Core.List.{List, ◌++◌, append_assoc, append-nil}
use native.Mathlib.Numerals.{add-one}
use native.Mathlib.Omega.{arith}
use lib.ListN.{length, take, drop, get_or, set, length-drop, length-append, drop_of_length-le}
use lib.Seq.{take-suc, drop-cons, set_at, drop-drop, take_at, drop_at, length-take-le}
use Rattle.text.proofs.Front.{from}
use Rattle.unescape_pieces.specs.Meaning.{Meaning, part, bytes, refused, written}
use Rattle.unescape.specs.Walk.{WrittenFits, buffer_after}

-- one byte more of s
pub copied : (s o out : List ℕ) (i : ℕ) → i < length s → i < length o → out ≡ take i s ++ drop i o
    → set out i (get_or s i 0) ≡ take (i + 1) s ++ drop (i + 1) o
copied s o out i h k e =
    rw (e, drop-cons o i 0 k)
    (set_at (take i s) (get_or o i 0) (drop (suc i) o) (get_or s i 0) i (length-take-le i s (omega arith))
    ∙ rw (add-one, take-suc s i 0 h, append_assoc))

-- A meaning whose first bytes are w

pub fits-first : (w : List ℕ) (m : Meaning) (n : ℕ) → WrittenFits (written w m) n → length w ≤ n
fits-first w (part a e) n h = absurd h
fits-first w (bytes l) n h = omega (arith, length-append w l)
fits-first w (refused f) n h = absurd h

fits-rest : (w : List ℕ) (m : Meaning) (n k : ℕ) → n ≡ k + length w → WrittenFits (written w m) n → WrittenFits m k
fits-rest w (part a e) n k q h = h
fits-rest w (bytes l) n k q h = omega (arith, length-append w l)
fits-rest w (refused f) n k q h = h

filled-first : (w : List ℕ) (m : Meaning) (n : ℕ) (o : List ℕ) → WrittenFits (written w m) n → buffer_after (written w m) o ≡ w ++ buffer_after m (drop (length w) o)
filled-first w (part a e) n o h = absurd h
filled-first w (bytes l) n o h = rw (append_assoc, length-append, drop-drop)
filled-first w (refused f) n o h = absurd h

-- w put behind the first n bytes
abbrev pub put_at : List ℕ → ℕ → List ℕ → List ℕ
put_at o n w = take n o ++ (w ++ drop (length w) (drop n o))

-- as a lent part of the buffer comes back
pub lent : (o w y : List ℕ) (n : ℕ) → y ≡ w ++ drop (length w) (take (length o - n) (drop n o))
    → take n o ++ (y ++ drop (length o - n) (drop n o)) ≡ put_at o n w
lent o w y n e = rw (e, from, drop_of_length-le (drop n o) {i = length o - n} (rw length-drop (omega arith)), append-nil)

-- the bytes written so far and the meaning of the rest make up the whole
pub record Wrote (total : List ℕ) (size : ℕ) (m : Meaning) (len : ℕ) (out : List ℕ) : Type 0 where
  pub same : length out ≡ size
  pub room : len ≤ length out
  pub fits : WrittenFits m (length out - len)
  pub whole : total ≡ take len out ++ buffer_after m (drop len out)

module _ {total : List ℕ} {size : ℕ} {m : Meaning} {len : ℕ} {o : List ℕ} (c : Wrote total size m len o) (w : List ℕ) (n : Meaning) (e : m ≡ written w n) where
  pub has_room : len + length w ≤ length o
  has_room = omega (arith, c.room, fits-first w n (length o - len) (rw e at c.fits))

  write-more : Wrote total size n (len + length w) (put_at o len w)
  write-more =
      let h = has_room in
      let a : length (take len o ++ w) ≡ len + length w = rw (length-append, length-take-le len o c.room) in
      let b : put_at o len w ≡ (take len o ++ w) ++ drop (length w) (drop len o) = sym (append_assoc (take len o) w (drop (length w) (drop len o))) in
      let t : take (len + length w) (put_at o len w) ≡ take len o ++ w = rw b (take_at (take len o ++ w) (drop (length w) (drop len o)) (len + length w) a) in
      let d : drop (len + length w) (put_at o len w) ≡ drop (length w) (drop len o) = rw b (drop_at (take len o ++ w) (drop (length w) (drop len o)) (len + length w) a) in
      let l : length (put_at o len w) ≡ length o = rw (b, length-append, a, length-drop, length-drop) (omega arith) in
      let f = rw e at c.fits in
      record {
        same = l ∙ c.same;
        room = rw l h;
        fits = rw l (fits-rest w n (length o - len) (length o - (len + length w)) (omega arith) f);
        whole = c.whole ∙ rw (t, d, append_assoc, ← filled-first w n (length o - len) (drop len o) f, e);
      }

  -- the same of a buffer o' that is that one, k being the length of w
  pub write-next : (o' : List ℕ) → o' ≡ put_at o len w → (k : ℕ) → k ≡ length w → Wrote total size n (len + k) o'
  write-next o' q k z = rw (q, z) write-more
