-- A batch by the code's own branches: over the limit, unfit, and taken.
use Prim.Native.Nat.{ℕ, ◌≤◌, ◌<◌}
use mathlib.Core.Path.{◌≡◌, sym, ap}
use mathlib.Core.List.{List}
use mathlib.Core.Bool.{Bool, true, false, ◌&&◌}
use lib.ListN.{length}
use borrow.Author.Tests.{lt-ltb, le-ltb}
use Rattle.batches.specs.Batch.{Batch, refused_batch, batch_by}

module _ (d : List ℕ) (b : Batch) (w rows : List ℕ) where
  pub over : (fits : Bool) → 16777216 < length d → batch_by d fits b w rows ≡ refused_batch 12 w rows
  unfolding batch_by
  over fits h = rw (lt-ltb 16777216 (length d) h)

  pub unfit : (fits : Bool) → length d ≤ 16777216 → fits ≡ false → batch_by d fits b w rows ≡ refused_batch 15 w rows
  unfolding batch_by
  unfit fits h e = rw (le-ltb 16777216 (length d) h, e)

  pub took : {read fits : Bool} → length d ≤ 16777216 → read ≡ true → fits ≡ true → batch_by d (read && fits) b w rows ≡ b
  unfolding batch_by
  took h e f = rw (le-ltb 16777216 (length d) h, e, f)

-- what the batch promises of an equal batch
pub promised : {x y : Batch} → x ≡ y → (y.result ≡ x.result) × ((y.words ≡ x.words) × (y.rows ≡ x.rows))
promised e = (sym (ap (λ b. b.result) e), (sym (ap (λ b. b.words) e), sym (ap (λ b. b.rows) e)))
