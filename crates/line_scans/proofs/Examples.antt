-- The count computed from the definitions: an edit of rule and code alike is refused here.
use Prim.Native.Nat.{ℕ}
use Prim.Native.Char.{code as byte}
use mathlib.Core.Path.{◌≡◌, refl}
use mathlib.Core.List.{List, [], ◌∷◌}
use lib.ListN.{replicate}
use Rattle.text_scans.specs.Eights.{passing}
use Rattle.line_scans.specs.Words.{line_sixteens, space_eights}

-- sixteen bytes, of which the fourth is b and the twelfth c, and a break behind them
abbrev around : ℕ → ℕ → List ℕ
around b c = aaa (b ∷ aaa (byte "a" ∷ aaa (c ∷ aaa (byte "a" ∷ byte "\n" ∷ []))))
  where
    aaa : List ℕ → List ℕ
    aaa s = byte "a" ∷ byte "a" ∷ byte "a" ∷ s

cr : line_sixteens (around (byte "\r") (byte "\n")) ≡ 3
unfolding passing
cr = refl

lf : line_sixteens (around (byte "a") (byte "\n")) ≡ 11
unfolding passing
lf = refl

-- the seventeenth byte is not in a whole sixteen
neither : line_sixteens (around (byte "a") (byte "a")) ≡ 16
unfolding passing
neither = refl

-- a space is passed, a tab is not; the ninth byte is not in a whole eight
tab : space_eights (byte " " ∷ byte "\t" ∷ around (byte " ") (byte " ")) ≡ 1
unfolding passing
tab = refl

nine : space_eights (replicate 9 (byte " ")) ≡ 8
unfolding passing
nine = refl
