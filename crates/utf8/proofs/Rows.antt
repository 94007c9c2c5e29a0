-- Rows of `lead_of`, each for the lead bytes between its ends: the rows above it do not hold them. And going by rows.
use Prim.Native.Nat.{ℕ, ◌≤◌}
use mathlib.Core.Path.{◌≡◌}
use mathlib.Core.Bool.{true}
use native.Mathlib.Omega.{arith}
use Rattle.utf8.specs.Utf8.{within, lead_of, follow}
use Rattle.utf8.specs.declared.utf8.Lead.{Lead}
use Rattle.std.specs.Prelude.{Option, None}
use Rattle.text.proofs.Cases.{on-cond}
use Rattle.utf8.proofs.Ranges.{above, inside}

module _ (b : ℕ) where
  pub two : 0xC2 ≤ b → b ≤ 0xDF → follow 1 0x80 0xBF ≡ lead_of b
  unfolding lead_of
  two l h = rw (above 0x00 0x7F b (omega arith), inside 0xC2 0xDF b l h)

  pub three : 0xE1 ≤ b → b ≤ 0xEC → follow 2 0x80 0xBF ≡ lead_of b
  unfolding lead_of
  three l h = rw (above 0x00 0x7F b (omega arith), above 0xC2 0xDF b (omega arith), above 0xE0 0xE0 b (omega arith), inside 0xE1 0xEC b l h)

  pub three-high : 0xEE ≤ b → b ≤ 0xEF → follow 2 0x80 0xBF ≡ lead_of b
  unfolding lead_of
  three-high l h = rw (above 0x00 0x7F b (omega arith), above 0xC2 0xDF b (omega arith), above 0xE0 0xE0 b (omega arith), above 0xE1 0xEC b (omega arith), above 0xED 0xED b (omega arith), inside 0xEE 0xEF b l h)

-- what holds of every row, where b is in it, holds of what b leads
pub each : (P : Option Lead → Type 0) (b : ℕ) → (within 0x00 0x7F b ≡ true → P (follow 0 0x80 0xBF))
    → (within 0xC2 0xDF b ≡ true → P (follow 1 0x80 0xBF))
    → (within 0xE0 0xE0 b ≡ true → P (follow 2 0xA0 0xBF))
    → (within 0xE1 0xEC b ≡ true → P (follow 2 0x80 0xBF))
    → (within 0xED 0xED b ≡ true → P (follow 2 0x80 0x9F))
    → (within 0xEE 0xEF b ≡ true → P (follow 2 0x80 0xBF))
    → (within 0xF0 0xF0 b ≡ true → P (follow 3 0x90 0xBF))
    → (within 0xF1 0xF3 b ≡ true → P (follow 3 0x80 0xBF))
    → (within 0xF4 0xF4 b ≡ true → P (follow 3 0x80 0x8F))
    → P None
    → P (lead_of b)
unfolding lead_of
each P b ascii two e0 e1 ed ee f0 f1 f4 bad =
    on-cond P _ ascii (λ _. on-cond P _ two (λ _. on-cond P _ e0 (λ _. on-cond P _ e1 (λ _. on-cond P _ ed
    (λ _. on-cond P _ ee (λ _. on-cond P _ f0 (λ _. on-cond P _ f1 (λ _. on-cond P _ f4 (λ _. bad)))))))))
