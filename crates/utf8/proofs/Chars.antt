-- `utf8` and `owes` read a text byte by byte; here the same is said of whole characters. A text is well-formed exactly where
-- it is empty, or begins with a character and is well-formed after it.
use Prim.Native.Nat.{ℕ, zero, suc, ◌≤◌, ◌<◌}
use mathlib.Core.Path.{◌≡◌, refl, ◌∙◌}
use mathlib.Core.List.{List, [], ◌∷◌}
use mathlib.Core.Bool.{Bool, true, false, cond, ◌&&◌, and_assoc, and-eq-true_iff, false≢true}
use native.Mathlib.Omega.{arith}
use lib.Dec.{eqb, eqb-suc-zero}
use lib.ListN.{length, drop}
use borrow.Author.Tests.{ne_eqb}
use Rattle.utf8.specs.Utf8.{within, lead_of, followed, len_after, char_len, on_lead, owes, utf8}
use Rattle.utf8.specs.declared.utf8.Lead.{Lead}
use Rattle.std.specs.Prelude.{Option, Some, None}

-- the continuations that are found are part of the text
pub followed_le : (n low high : ℕ) (s : List ℕ) → followed n low high s ≡ true → n ≤ length s
unfolding followed
followed_le zero low high s e = omega arith
followed_le (suc n) low high [] e = absurd (false≢true e)
followed_le (suc n) low high (b ∷ r) e =
    let k = followed_le n 0x80 0xBF r ((and-eq-true_iff (within low high b) _).0 e).1 in
    omega arith

-- what is owed is the continuations and then a well-formed text
pub owes-split : (n low high : ℕ) (s : List ℕ) → owes s n low high ≡ followed n low high s && utf8 (drop n s)
unfolding owes followed utf8
owes-split zero low high [] = refl
owes-split zero low high (b ∷ r) = refl
owes-split (suc n) low high [] = refl
owes-split (suc n) low high (b ∷ r) = rw (owes-split n 0x80 0xBF r, and_assoc)

pub char_len_le : (s : List ℕ) → char_len s ≤ length s
unfolding char_len
char_len_le [] = omega arith
char_len_le (b ∷ r) = after (lead_of b)
  where
    after : (l : Option Lead) → len_after l r ≤ suc (length r)
    after None = omega arith
    after (Some l) = found (followed l.more l.low l.high r) (followed_le l.more l.low l.high r)
      where
        found : (t : Bool) → (t ≡ true → l.more ≤ length r) → cond t (suc l.more) 0 ≤ suc (length r)
        found true h = let k = h refl in omega arith
        found false h = omega arith

-- a text that is not empty is well-formed where it begins with a character and is well-formed after it
pub utf8-char : (s : List ℕ) → 0 < length s → utf8 s ≡ cond (eqb (char_len s) 0) false (utf8 (drop (char_len s) s))
unfolding utf8 owes char_len
utf8-char [] h = absurd (omega arith)
utf8-char (b ∷ r) h = after (lead_of b)
  where
    after : (l : Option Lead) → on_lead l (λ n low high. owes r n low high) ≡ cond (eqb (len_after l r) 0) false (utf8 (drop (len_after l r) (b ∷ r)))
    after None = refl
    after (Some l) = owes-split l.more l.low l.high r ∙ found (followed l.more l.low l.high r)
      where
        found : (t : Bool) → t && utf8 (drop l.more r) ≡ cond (eqb (cond t (suc l.more) 0) 0) false (utf8 (drop (cond t (suc l.more) 0) (b ∷ r)))
        found true = rw eqb-suc-zero
        found false = refl

pub utf8_none : (s : List ℕ) → length s ≡ 0 → utf8 s ≡ true
unfolding utf8 owes
utf8_none [] e = refl
utf8_none (b ∷ r) e = absurd (omega arith)

pub no_char : (s : List ℕ) → 0 < length s → char_len s ≡ 0 → utf8 s ≡ false
no_char s h z = utf8-char s h ∙ rw z

pub past_char : (s : List ℕ) → 0 < length s → (char_len s ≡ 0 → ⊥) → utf8 s ≡ utf8 (drop (char_len s) s)
past_char s h z = utf8-char s h ∙ rw (ne_eqb (char_len s) 0 z)
