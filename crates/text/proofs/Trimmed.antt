-- The trimmed part lies within the text.
use Prim.Native.Nat.{ℕ, zero, suc, ◌+◌, ◌≤◌, ◌<◌}
use mathlib.Core.List.{List, [], ◌∷◌}
use mathlib.Core.Bool.{Bool, true, false, cond}
use native.Mathlib.Omega.{arith}
use lib.Dec.{eqb}
use lib.ListN.{length}
use borrow.Author.Tests.{eqb-false}
use Rattle.std.specs.List.{prefix_len}
use Rattle.text.specs.Trimming.{keep_more, kept_end, trimmed}
use Rattle.text.proofs.Cases.{by_bool}
use Rattle.text.proofs.Ends.{kept}

-- where a byte is kept, the bytes dropped in front end before the kept ones do
start-le : (p : ℕ → Bool) (s : List ℕ) → 0 < kept_end p s → prefix_len p s ≤ kept_end p s
unfolding kept_end
start-le p [] h = omega arith
start-le p (b ∷ r) h = more (p b) (kept_end p r) (start-le p r) h
  where
    more : (t : Bool) (k : ℕ) → (0 < k → prefix_len p r ≤ k) → 0 < keep_more t k → cond t (1 + prefix_len p r) 0 ≤ keep_more t k
    more false k i h = omega arith
    more true zero i h = absurd (omega arith)
    more true (suc k) i h = omega (arith, i (omega arith))

pub trimmed-le : (p : ℕ → Bool) (s : List ℕ) → ((trimmed p s).start ≤ (trimmed p s).end) × ((trimmed p s).end ≤ length s)
unfolding trimmed
trimmed-le p s =
    by_bool (eqb (kept_end p s) 0)
    (λ e. rw e (omega arith))
    (λ e. rw e (start-le p s (omega (arith, eqb-false (kept_end p s) 0 e)), omega (arith, kept p s)))
