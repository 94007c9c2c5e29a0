-- The characters in quotes, piece by piece: what `quoted` says byte by byte is a run of bytes as they stand, or one escape, and
-- then the same after it.
use Prim.Native.Nat.{ℕ, suc, ◌+◌, ◌≤◌, ◌<◌}
use mathlib.Core.Path.{◌≡◌, refl, sym, ap, ◌∙◌}
use mathlib.Core.List.{List, [], ◌∷◌, ◌++◌, append-nil, append_assoc}
use mathlib.Core.Bool.{Bool, true, false, cond, not, ◌||◌}
use native.Mathlib.Nat.{add-zero}
use native.Mathlib.Numerals.{one-add}
use native.Mathlib.Omega.{arith}
use lib.Dec.{eqb}
use lib.ListN.{length, take, drop, get_or}
use borrow.Author.Tests.{eqb-true}
use Rattle.std.specs.Prelude.{Option, Some, None}
use Rattle.std.specs.Option.{option_and_then, option_map_or}
use Rattle.std.specs.List.{prefix_len}
use Rattle.utf8.specs.Utf8.{within}
use Rattle.utf8.specs.Scalar.{is_scalar, encoding}
use Rattle.text.proofs.Cases.{by_bool, clash}
use Rattle.unescape_codes.specs.Codes.{code_of, simple_of}
use Rattle.unescape_pieces.specs.Meaning.{Meaning, part, bytes, code, refused, written, scalar_in, plain, brace, quoted, is_literal}
use Rattle.unescape_pieces.specs.Pieces.{in_brace}

pub written-nil : (m : Meaning) → written [] m ≡ m
written-nil (part a e) = refl
written-nil (bytes l) = refl
written-nil (refused f) = refl

pub written_twice : (v w : List ℕ) (m : Meaning) → written v (written w m) ≡ written (v ++ w) m
written_twice v w (part a e) = refl
written_twice v w (bytes l) = ap bytes (sym (append_assoc v w l))
written_twice v w (refused f) = refl

pub neither : (x y : Bool) → not (x || y) ≡ true → (x ≡ false) × (y ≡ false)
neither true y e = absurd (clash (sym e))
neither false true e = absurd (clash (sym e))
neither false false e = (refl, refl)

-- An escape of one byte

-- a byte that may follow a backslash, and the one that both stand for, are below 80
pub simple : (b v : ℕ) → simple_of b ≡ Some v → (b < 0x80) × (v < 0x80)
unfolding simple_of
simple b v e = (grind arith, grind arith)

-- An escape in braces is a scalar value, and has a byte between them

scalar-by : (o : Option ℕ) (v : ℕ) → option_and_then (λ n. cond (is_scalar n) (Some n) None) o ≡ Some v → is_scalar v ≡ true
scalar-by (Some n) v e = by_bool (is_scalar n) (λ t. let q : n ≡ v = cc in rw q at t) (λ t. absurd cc)
scalar-by None v e = absurd cc

pub scalar-in : (h : List ℕ) (v : ℕ) → scalar_in h ≡ Some v → is_scalar v ≡ true
scalar-in h v e = scalar-by (code_of h) v e

pub scalar-1 : (h : List ℕ) (v : ℕ) → scalar_in h ≡ Some v → 1 ≤ length h
unfolding code_of within
scalar-1 [] v e = absurd cc
scalar-1 (b ∷ h) v e = omega arith

-- A run

pub bare-byte : (b : ℕ) (r : List ℕ) (n : ℕ) → is_literal b ≡ true → quoted (b ∷ r) plain n ≡ written (b ∷ []) (quoted r plain (n + 1))
unfolding quoted
bare-byte b r n e = let k = neither (eqb b 34) (eqb b 92) e in rw (k.0, k.1)

-- the bytes before n, and the rest at its place
abbrev Ran : List ℕ → ℕ → ℕ → Type 0
Ran s n k = quoted s plain n ≡ written (take k s) (quoted (drop k s) plain (n + k))

ran-none : (s : List ℕ) (n : ℕ) → Ran s n 0
ran-none s n = rw add-zero (sym (written-nil (quoted s plain n)))

pub run : (s : List ℕ) (n : ℕ) → Ran s n (prefix_len is_literal s)
run [] n = ran-none [] n
run (b ∷ r) n =
    by_bool (is_literal b)
    (λ e. let k = prefix_len is_literal r in
    let q : n + 1 + k ≡ n + suc k = omega arith in
    rw (e, one-add) (bare-byte b r n e ∙ ap (written (b ∷ [])) (run r (n + 1)) ∙ written_twice (b ∷ []) (take k r) (quoted (drop k r) plain (n + 1 + k)) ∙ rw q))
    (λ e. rw e (ran-none (b ∷ r) n))

-- A brace that holds h already, its backslash at s: k bytes more, and then `}`, `"` or the end

abbrev pub Braced : List ℕ → List ℕ → ℕ → ℕ → ℕ → Meaning
Braced r h s n k =
    cond (eqb (get_or r k 0) 125)
    (option_map_or (λ v. written (encoding v) (quoted (drop (suc k) r) plain (n + k + 1))) (scalar_in (h ++ take k r)) (code s (n + k + 1)))
    (code s (n + k))

pub in-brace : (r h : List ℕ) (s n : ℕ) → quoted r (brace s h) n ≡ Braced r h s n (prefix_len in_brace r)
unfolding quoted
in-brace [] h s n = rw add-zero
in-brace (b ∷ r) h s n =
    by_bool (eqb b 125)
    (λ e. rw (eqb-true b 125 e, append-nil, add-zero))
    (λ e. by_bool (eqb b 34)
    (λ f. rw (eqb-true b 34 f, add-zero))
    (λ f. let k = prefix_len in_brace r in
    let q : n + 1 + k ≡ n + suc k = omega arith in
    rw (e, f, one-add) (in-brace r (h ++ b ∷ []) s (n + 1) ∙ rw (append_assoc, q))))
