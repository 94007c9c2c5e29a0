-- Whether a character has two bytes is told by the first two bytes of the text alone, and whether it has three by the
-- first three: by the lead bytes of that length, and the ranges of the bytes after them. The table's other rows have
-- another length.
use Prim.Native.Nat.{ℕ, suc, ◌≤◌, ◌<◌}
use mathlib.Core.Path.{◌≡◌, refl, sym, ◌∙◌}
use mathlib.Core.List.{List, [], ◌∷◌}
use mathlib.Core.Bool.{Bool, true, false, cond, ◌&&◌}
use native.Mathlib.Omega.{arith}
use lib.Dec.{eqb, leb}
use lib.ListN.{length, get_or}
use borrow.Author.Tests.{eqb-true, eqb-false, leb-true, leb-false, ne_eqb}
use Rattle.utf8.specs.Utf8.{within, lead_of, followed, len_after, char_len, follow}
use Rattle.utf8.specs.declared.utf8.Lead.{Lead}
use Rattle.std.specs.Prelude.{Option}
use Rattle.text.proofs.Cases.{by_bool, on-cond, clash}
use Rattle.utf8.proofs.Chars.{char_len_le}
use Rattle.utf8.proofs.Ranges.{inside, within-bounds}
use Rattle.utf8.proofs.Rows as rows

-- a character is no longer than the text
pub short : (n : ℕ) (s : List ℕ) → length s < n → eqb (char_len s) n ≡ false
short n s h = ne_eqb (char_len s) n (λ e. let k = char_len_le s in omega arith)

-- a text is no character of n bytes, r standing after its lead byte
abbrev Other : ℕ → List ℕ → Option Lead → Type 0
Other n r l = eqb (len_after l r) n ≡ false

-- it is none where other than n bytes are asked for
other : (n : ℕ) (r : List ℕ) (m low high : ℕ) → eqb (suc m) n ≡ false → eqb 0 n ≡ false → Other n r (follow m low high)
other n r m low high e f = on-cond (λ k. eqb k n ≡ false) (followed m low high r) (λ _. e) (λ _. f)

-- Two bytes: the lead is from C2 to DF.
no-two : (b : ℕ) (r : List ℕ) → within 0xC2 0xDF b ≡ false → Other 2 r (lead_of b)
no-two b r e =
    rows.each (Other 2 r) b
    (λ _. other 2 r 0 _ _ refl refl)
    (λ t. absurd (clash (sym t ∙ e)))
    (λ _. other 2 r 2 _ _ refl refl)
    (λ _. other 2 r 2 _ _ refl refl)
    (λ _. other 2 r 2 _ _ refl refl)
    (λ _. other 2 r 2 _ _ refl refl)
    (λ _. other 2 r 3 _ _ refl refl)
    (λ _. other 2 r 3 _ _ refl refl)
    (λ _. other 2 r 3 _ _ refl refl)
    refl

pub two : (s : List ℕ) → 2 ≤ length s
    → within 0xC2 0xDF (get_or s 0 0) && within 0x80 0xBF (get_or s 1 0) ≡ eqb (char_len s) 2
unfolding char_len followed
two [] h = absurd (omega arith)
two (b ∷ []) h = absurd (omega arith)
two (b ∷ c ∷ r) h =
    by_bool (within 0xC2 0xDF b)
    (λ e. let k = within-bounds 0xC2 0xDF b e in rw (e, ← rows.two b k.0 k.1) (tell (within 0x80 0xBF c)))
    (λ e. rw (e, no-two b (c ∷ r) e))
  where
    tell : (t : Bool) → t ≡ eqb (cond (t && true) 2 0) 2
    tell true = refl
    tell false = refl

-- Three bytes: the lead is from E0 to EF, and E0 and ED have a narrower second byte.
abbrev pub least : ℕ → ℕ
least b = cond (eqb b 0xE0) 0xA0 0x80

abbrev pub most : ℕ → ℕ
most b = cond (eqb b 0xED) 0x9F 0xBF

lead-three : (b : ℕ) → 0xE0 ≤ b → b ≤ 0xEF → lead_of b ≡ follow 2 (least b) (most b)
unfolding lead_of within
lead-three b l h =
    by_bool (eqb b 0xE0)
    (λ e. rw (eqb-true b 0xE0 e))
    (λ e. by_bool (eqb b 0xED)
    (λ f. rw (eqb-true b 0xED f))
    (λ f. by_bool (leb b 0xEC)
    (λ k. rw (e, f) (sym (rows.three b (let d = eqb-false b 0xE0 e in omega arith) (leb-true b 0xEC k))))
    (λ k. rw (e, f) (sym (rows.three-high b (let d = eqb-false b 0xED f in omega (arith, leb-false b 0xEC k)) h)))))

no-three : (b : ℕ) (r : List ℕ) → within 0xE0 0xEF b ≡ false → Other 3 r (lead_of b)
no-three b r e =
    rows.each (Other 3 r) b
    (λ _. other 3 r 0 _ _ refl refl)
    (λ _. other 3 r 1 _ _ refl refl)
    (λ t. absurd (not t (omega arith) (omega arith)))
    (λ t. absurd (not t (omega arith) (omega arith)))
    (λ t. absurd (not t (omega arith) (omega arith)))
    (λ t. absurd (not t (omega arith) (omega arith)))
    (λ _. other 3 r 3 _ _ refl refl)
    (λ _. other 3 r 3 _ _ refl refl)
    (λ _. other 3 r 3 _ _ refl refl)
    refl
  where
    not : {low high : ℕ} → within low high b ≡ true → 0xE0 ≤ low → high ≤ 0xEF → ⊥
    not {low} {high} t l h =
        let k = within-bounds low high b t in
        clash (sym (inside 0xE0 0xEF b (omega arith) (omega arith)) ∙ e)

pub three : (s : List ℕ) → 3 ≤ length s
    → let b = get_or s 0 0 in
    (within 0xE0 0xEF b && within (least b) (most b) (get_or s 1 0)) && within 0x80 0xBF (get_or s 2 0) ≡ eqb (char_len s) 3
unfolding char_len followed
three [] h = absurd (omega arith)
three (b ∷ []) h = absurd (omega arith)
three (b ∷ c ∷ []) h = absurd (omega arith)
three (b ∷ c ∷ d ∷ r) h =
    by_bool (within 0xE0 0xEF b)
    (λ e.
    let k = within-bounds 0xE0 0xEF b e in
    rw (e, lead-three b k.0 k.1) (tell (within (least b) (most b) c) (within 0x80 0xBF d)))
    (λ e. rw (e, no-three b (c ∷ d ∷ r) e))
  where
    tell : (t u : Bool) → t && u ≡ eqb (cond (t && (u && true)) 3 0) 3
    tell true true = refl
    tell true false = refl
    tell false u = refl
