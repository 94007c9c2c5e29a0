-- What a scan by words passes over: the scan by bytes may go on from there (text_scans/proofs/Passing, `upto`).
use Prim.Native.Nat.{ℕ, ◌+◌, ◌*◌, ◌/◌, ◌≤◌}
use mathlib.Core.Path.{◌≡◌, sym}
use mathlib.Core.List.{List}
use mathlib.Core.Bool.{Bool, true}
use native.Mathlib.Nat.{zero-add, min-le_left}
use native.Mathlib.Omega.{arith}
use lib.ListN.{length, get_or, drop}
use Rattle.text.specs.Bytes.{is_blank, is_break, not_break, line_end}
use Rattle.std.specs.List.{prefix_len}
use Rattle.text.specs.Trimming.{dropped}
use Rattle.line_scans.specs.Words.{in_line, is_space, passed_by, at_most, line_sixteens, space_eights}
use Rattle.text.specs.declared.trimming.Dropped.{Dropped}
use Rattle.text.specs.declared.trimming.Dropped.TheVariants.{Blanks, BlanksAndBreaks}
use Rattle.text_scans.proofs.Passing.{passing-le, upto}
use Rattle.std.proofs.lemmas.List.Sums.{prefix_len-drop_yes}

-- Of the bytes that pass one test, as many as another may be asked of again: the count goes on from there.
passed : (p t : ℕ → Bool) (s : List ℕ) (m : ℕ) → ((b : ℕ) → t b ≡ true → p b ≡ true) → (r : ℕ) → r ≡ at_most m t s
    → (r ≤ length s) × (prefix_len p s ≡ r + prefix_len p (drop r s))
passed p t s m f r e =
    let l = min-le_left (passed_by t s) m in (
      omega (arith, passing-le (λ i. t (get_or s i 0)) (length s)),
      upto (λ i. t (get_or s i 0)) (length s) (λ i. prefix_len p s ≡ i + prefix_len p (drop i s)) (sym (zero-add _))
          (λ i m h g. omega (arith, g, prefix_len-drop_yes p s i 0 m (f (get_or s i 0) h))) r (omega arith),
    )

-- each kind of trimming drops spaces
space : (which : Dropped) (b : ℕ) → is_space b ≡ true → dropped which b ≡ true
unfolding dropped is_blank
space Blanks b e = rw e
space BlanksAndBreaks b e = rw e

pub spaces : (which : Dropped) (s : List ℕ) (r : ℕ) → r ≡ space_eights s
    → (r ≤ length s) × (prefix_len (dropped which) s ≡ r + prefix_len (dropped which) (drop r s))
spaces which s = passed (dropped which) is_space s (length s / 8 * 8) (space which)

pub line : (s : List ℕ) (r : ℕ) → r ≡ line_sixteens s → (r ≤ length s) × (line_end s ≡ r + line_end (drop r s))
unfolding is_break
line s = passed not_break in_line s (length s / 16 * 16) (λ b e. e)
