-- What `encode` answers: an encoding has at most four bytes, and they are the first ones that it gives.
use Prim.Native.Nat.{ℕ, ◌≤◌}
use mathlib.Core.Path.{◌≡◌, ◌∙◌}
use mathlib.Core.List.{[], ◌∷◌, ◌++◌}
use native.Mathlib.Omega.{arith}
use lib.Dec.{ltb}
use lib.ListN.{length, take}
use lib.Seq.{take-take, take-append_seam}
use Rattle.text.proofs.Cases.{by_bool}
use Rattle.utf8.specs.Scalar.{is_scalar, encoding, encoding_of, padded}

four : (n : ℕ) → length (encoding n) ≤ 4
unfolding encoding
four n =
    by_bool (ltb n 0x80) (λ e. rw e (omega arith))
    (λ e. by_bool (ltb n 0x800) (λ f. rw (e, f) (omega arith)) (λ f. by_bool (ltb n 0x10000) (λ g. rw (e, f, g) (omega arith)) (λ g. rw (e, f, g) (omega arith))))

pub encoding-le : (n : ℕ) → length (encoding_of n) ≤ 4
unfolding encoding_of
encoding-le n = by_bool (is_scalar n) (λ e. rw e (four n)) (λ e. rw e (omega arith))

-- the bytes that it gives, as a caller takes them
pub encoded_bytes : (n : ℕ) → take (length (encoding_of n)) (padded (encoding_of n)) ≡ encoding_of n
encoded_bytes n = take-take (length (encoding_of n)) 4 (encoding_of n ++ 0 ∷ 0 ∷ 0 ∷ 0 ∷ []) (encoding-le n) ∙ take-append_seam (encoding_of n) (0 ∷ 0 ∷ 0 ∷ 0 ∷ [])
