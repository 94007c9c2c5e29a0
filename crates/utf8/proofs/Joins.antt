-- Texts put together and taken apart. A well-formed text may stand in front of any other: what follows decides. And a text is
-- well-formed exactly where both sides of a byte below 80 are: that byte is a character of its own, since whatever a lead byte
-- owes is at least 80. Both are shown of `owes`, at any place within a character.
use Prim.Native.Nat.{ℕ, zero, suc, ◌≤◌, ◌<◌}
use mathlib.Core.Path.{◌≡◌, refl, sym, ap, ap₂, ◌∙◌}
use mathlib.Core.List.{List, [], ◌∷◌, ◌++◌}
use mathlib.Core.Bool.{true, ◌&&◌, and_assoc, and-true, and-eq-true_iff, false≢true}
use native.Mathlib.Omega.{arith}
use lib.Dec.{eqb}
use lib.ListN.{length, drop}
use borrow.Author.Tests.{eqb-true, leb-true}
use Rattle.text.specs.Bytes.{starts_with}
use Rattle.utf8.specs.Utf8.{within, lead_of, on_lead, owes, utf8}
use Rattle.utf8.specs.declared.utf8.Lead.{Lead}
use Rattle.std.specs.Prelude.{Option, Some, None}
use Rattle.utf8.proofs.Ranges.{below}
use Rattle.utf8.proofs.Trimmed.{Owed, nothing, some, owed}
use Rattle.utf8.proofs.Unicode.{utf8_ascii}

-- A well-formed text in front

-- where nothing is owed, the range of the next byte does not matter
owes_nothing : (s : List ℕ) (low high : ℕ) → owes s 0 low high ≡ utf8 s
unfolding owes utf8
owes_nothing [] low high = refl
owes_nothing (b ∷ r) low high = refl

-- after a, which completes what is owed, b decides
abbrev Before : List ℕ → List ℕ → Type 0
Before a b = (n low high : ℕ) → owes a n low high ≡ true → owes (a ++ b) n low high ≡ utf8 b

owes-append : (a b : List ℕ) → Before a b
unfolding owes
owes-append [] b zero low high e = owes_nothing b low high
owes-append [] b (suc n) low high e = absurd (false≢true e)
owes-append (c ∷ a) b zero low high e = after (lead_of c) (owes-append a b) e
  where
    after : (l : Option Lead) → Before a b → on_lead l (λ n low high. owes a n low high) ≡ true → on_lead l (λ n low high. owes (a ++ b) n low high) ≡ utf8 b
    after None i e = absurd (false≢true e)
    after (Some l) i e = i l.more l.low l.high e
owes-append (c ∷ a) b (suc n) low high e =
    let k = (and-eq-true_iff (within low high c) (owes a n 0x80 0xBF)).0 e in
    rw k.0 (owes-append a b n 0x80 0xBF k.1)

pub utf8_append : (a b : List ℕ) → utf8 a ≡ true → utf8 (a ++ b) ≡ utf8 b
unfolding utf8
utf8_append a b e = owes-append a b 0 0x80 0xBF e

-- A text without a well-formed one that it begins with

starts-split : (p s : List ℕ) → starts_with p s ≡ true → s ≡ p ++ drop (length p) s
unfolding starts_with
starts-split [] s e = refl
starts-split (a ∷ p) [] e = absurd (false≢true e)
starts-split (a ∷ p) (b ∷ s) e =
    let k = (and-eq-true_iff (eqb a b) (starts_with p s)).0 e in
    ap₂ ◌∷◌ (sym (eqb-true a b k.0)) (starts-split p s k.1)

pub utf8_drop : (p s : List ℕ) → starts_with p s ≡ true → utf8 p ≡ true → utf8 (drop (length p) s) ≡ utf8 s
utf8_drop p s t e = sym (utf8_append p (drop (length p) s) e) ∙ ap utf8 (sym (starts-split p s t))

-- A byte below 80 within a text

-- b between p and r: the text is well-formed where both are, whatever is owed
abbrev Around : ℕ → List ℕ → List ℕ → Type 0
Around b p r = (n low high : ℕ) → 0x80 ≤ low → owes (p ++ b ∷ r) n low high ≡ owes p n low high && utf8 r

module _ (b : ℕ) (ascii : b < 0x80) where
  owes-cut : (p r : List ℕ) → Around b p r
  unfolding owes utf8
  owes-cut [] r zero low high h = utf8_ascii b r ascii
  owes-cut [] r (suc n) low high h = rw (below low high b (omega arith))
  owes-cut (c ∷ p) r zero low high h = after (owed c) (owes-cut p r)
    where
      after : {l : Option Lead} → Owed l → Around b p r
          → on_lead l (λ n low high. owes (p ++ b ∷ r) n low high) ≡ on_lead l (λ n low high. owes p n low high) && utf8 r
      after nothing i = refl
      after (some {n = n} {low = low} {high = high} k) i = i n low high (leb-true 0x80 low k)
  owes-cut (c ∷ p) r (suc n) low high h = rw (owes-cut p r n 0x80 0xBF (omega arith), and_assoc)

  -- both sides of it
  pub utf8-cut : (p r : List ℕ) → utf8 (p ++ b ∷ r) ≡ true → (utf8 p ≡ true) × (utf8 r ≡ true)
  unfolding utf8
  utf8-cut p r e = (and-eq-true_iff (utf8 p) (utf8 r)).0 (rw (owes-cut p r 0 0x80 0xBF (omega arith)) at e)

-- such a byte at the end
pub utf8-snoc : (s : List ℕ) (b : ℕ) → b < 0x80 → utf8 (s ++ b ∷ []) ≡ utf8 s
unfolding utf8 owes
utf8-snoc s b h = owes-cut b h s [] 0 0x80 0xBF (omega arith) ∙ and-true (utf8 s)
