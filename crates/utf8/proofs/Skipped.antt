-- What the scan of bytes below 80 passes over: the scan by characters may go on from there (text_scans/proofs/Passing, `upto`).
use Prim.Native.Nat.{ℕ, suc, ◌≤◌}
use mathlib.Core.Path.{◌≡◌, refl, ◌∙◌}
use mathlib.Core.List.{List}
use native.Mathlib.Numerals.{add-one}
use native.Mathlib.Omega.{arith}
use lib.Seq.{drop-cons}
use lib.ListN.{length, get_or, drop}
use borrow.Author.Tests.{ltb-true}
use Rattle.text_scans.specs.Eights.{passing, ascii_at}
use Rattle.text_scans.proofs.Passing.{passing-le, upto}
use Rattle.utf8.specs.Utf8.{utf8}
use Rattle.utf8.proofs.Unicode.{utf8_ascii}

pub ascii : (s : List ℕ) (r : ℕ) → r ≡ passing (ascii_at s) (length s) → (r ≤ length s) × (utf8 s ≡ utf8 (drop r s))
ascii s r e = (
  omega (arith, passing-le (ascii_at s) (length s)),
  upto (ascii_at s) (length s) (λ i. utf8 s ≡ utf8 (drop i s)) refl
      (λ i l q h. h ∙ rw (drop-cons s i 0 l, add-one) (utf8_ascii (get_or s i 0) (drop (suc i) s) (ltb-true (get_or s i 0) 0x80 q))) r (omega arith),
)
