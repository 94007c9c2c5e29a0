-- Trimming keeps a text well-formed, because it drops only bytes below 80. In front, such a byte is a character of its own; at
-- the end it is one too, since it is no continuation: whatever a lead byte owes is at least 80.
use Prim.Native.Nat.{ℕ, zero, suc, ◌-◌, ◌≤◌, ◌<◌}
use mathlib.Core.Path.{◌≡◌, refl, sym, ◌∙◌}
use mathlib.Core.List.{List, [], ◌∷◌}
use mathlib.Core.Bool.{Bool, true, false, cond, false≢true}
use native.Mathlib.Numerals.{one-add}
use native.Mathlib.Omega.{arith}
use native.Mathlib.Nat.{sub-zero}
use lib.Dec.{eqb, leb, ltb}
use lib.ListN.{take, drop}
use borrow.Author.Tests.{leb-true, ltb-true, ltb-false, ne_eqb}
use Rattle.text.specs.Bytes.{is_blank, is_break}
use Rattle.std.specs.List.{prefix_len}
use Rattle.text.specs.Trimming.{dropped, keep_more, kept_end, trimmed}
use Rattle.utf8.specs.Utf8.{lead_of, on_lead, owes, utf8, follow}
use Rattle.text.specs.declared.trimming.Dropped.{Dropped}
use Rattle.text.specs.declared.trimming.Dropped.TheVariants.{Blanks, BlanksAndBreaks}
use Rattle.utf8.specs.declared.utf8.Lead.{Lead}
use Rattle.std.specs.Prelude.{Option, None}
use Rattle.text.proofs.Cases.{by_bool}
use Rattle.utf8.proofs.Ranges.{below}
use Rattle.utf8.proofs.Unicode.{utf8_ascii}

-- What a lead byte owes is at least 80

pub data Owed : Option Lead → Type 0 where
  nothing : Owed None
  some : {n low high : ℕ} → leb 0x80 low ≡ true → Owed (follow n low high)

either : (t : Bool) {x y : Option Lead} → Owed x → Owed y → Owed (cond t x y)
either true a b = a
either false a b = b

pub owed : (b : ℕ) → Owed (lead_of b)
unfolding lead_of
owed b = search (either, some, nothing) depth 12

-- A text with bytes below 80 dropped at its end

-- both are well-formed or neither is, whatever is owed
abbrev Alike : List ℕ → List ℕ → Type 0
Alike s t = (n low high : ℕ) → 0x80 ≤ low → owes s n low high ≡ owes t n low high

-- the same byte in front of both
alike-cons : (b : ℕ) (s t : List ℕ) → Alike s t → Alike (b ∷ s) (b ∷ t)
unfolding owes
alike-cons b s t a zero low high h = after (owed b)
  where
    after : {l : Option Lead} → Owed l → on_lead l (λ n low high. owes s n low high) ≡ on_lead l (λ n low high. owes t n low high)
    after nothing = refl
    after (some {n = n} {low = low} {high = high} k) = a n low high (leb-true 0x80 low k)
alike-cons b s t a (suc n) low high h = rw (a n 0x80 0xBF (omega arith))

-- a last byte below 80 completes nothing that is owed, and adds nothing where nothing is
alike-ascii : (b : ℕ) (s : List ℕ) → b < 0x80 → Alike [] s → Alike [] (b ∷ s)
unfolding owes utf8
alike-ascii b s l a zero low high h = a 0 0x80 0xBF (omega arith) ∙ sym (utf8_ascii b s l)
alike-ascii b s l a (suc n) low high h = rw (below low high b (omega arith))

-- Trimming by a test that only bytes below 80 pass
module _ (p : ℕ → Bool) (ascii : (b : ℕ) → p b ≡ true → b < 0x80) where
  -- dropped in front
  pub utf8-start : (s : List ℕ) → utf8 (drop (prefix_len p s) s) ≡ utf8 s
  utf8-start [] = refl
  utf8-start (b ∷ r) = by_bool (p b) (λ e. rw (e, one-add) (utf8-start r ∙ sym (utf8_ascii b r (ascii b e)))) (λ e. rw e)

  -- dropped at the end
  alike_end : (s : List ℕ) → Alike (take (kept_end p s) s) s
  unfolding kept_end
  alike_end [] = λ n low high h. refl
  alike_end (b ∷ r) = more (p b) (ascii b) (kept_end p r) (alike_end r)
    where
      more : (t : Bool) → (t ≡ true → b < 0x80) → (k : ℕ) → Alike (take k r) r → Alike (take (keep_more t k) (b ∷ r)) (b ∷ r)
      more true l zero a = alike-ascii b r (l refl) a
      more false l zero a = alike-cons b [] r a
      more t l (suc k) a = alike-cons b (take (suc k) r) r a

  -- the end, counted from the start
  end_after : (s : List ℕ) → kept_end p s - prefix_len p s ≡ kept_end p (drop (prefix_len p s) s)
  unfolding kept_end
  end_after [] = refl
  end_after (b ∷ r) = by_bool (p b) (λ e. rw (e, one-add) (more (kept_end p r) (end_after r))) (λ e. rw (e, sub-zero) (rw e))
    where
      more : (k : ℕ) {n : ℕ} → k - prefix_len p r ≡ n → keep_more true k - suc (prefix_len p r) ≡ n
      more zero e = omega arith
      more (suc k) e = omega arith

  pub trimmed-ascii : (s : List ℕ) → utf8 s ≡ true → utf8 (take ((trimmed p s).end - (trimmed p s).start) (drop (trimmed p s).start s)) ≡ true
  unfolding trimmed utf8 owes
  trimmed-ascii s u =
      by_bool (eqb (kept_end p s) 0)
      (λ e. rw e)
      (λ e. rw (e, end_after s) (alike_end (drop (prefix_len p s) s) 0 0x80 0xBF (omega arith) ∙ utf8-start s ∙ u))

-- The bytes that are dropped are below 80

keeps_high : (which : Dropped) (b : ℕ) → 0x80 ≤ b → dropped which b ≡ false
unfolding dropped is_blank is_break
keeps_high Blanks b h = simp (ne_eqb b 32 (omega arith), ne_eqb b 9 (omega arith))
keeps_high BlanksAndBreaks b h = simp (ne_eqb b 32 (omega arith), ne_eqb b 9 (omega arith), ne_eqb b 13 (omega arith), ne_eqb b 10 (omega arith))

pub dropped-ascii : (which : Dropped) (b : ℕ) → dropped which b ≡ true → b < 0x80
dropped-ascii which b e =
    by_bool (ltb b 0x80) (ltb-true b 0x80) (λ t. absurd (false≢true (sym (keeps_high which b (ltb-false b 0x80 t)) ∙ e)))

pub trimmed-utf8 : (which : Dropped) (s : List ℕ) → utf8 s ≡ true
    → utf8 (take ((trimmed (dropped which) s).end - (trimmed (dropped which) s).start) (drop (trimmed (dropped which) s).start s)) ≡ true
trimmed-utf8 which = trimmed-ascii (dropped which) (dropped-ascii which)
