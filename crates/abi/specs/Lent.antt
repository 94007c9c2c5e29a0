-- Intermediate definitions: what `conl_trim` takes and writes, in words of the lent slices. What trimming drops is law
-- (text, specs/Trimming). The example ties them to it: it refuses code and definitions that are wrong alike.
use Rattle.std.specs.Prelude.{ℕ, ◌≡◌, List, [], ◌∷◌, Bool, true, false}
use Rattle.text.specs.Ascii.{ascii}
use Rattle.text.specs.Trimming.{dropped, trimmed}
use Rattle.text.specs.declared.bytes.Part.{Part}
use Rattle.text.specs.declared.trimming.Dropped.{Dropped}
use Rattle.text.specs.declared.trimming.Dropped.TheVariants.{Blanks, BlanksAndBreaks}

-- which bytes are dropped: with or without breaks
unfoldable pub which_of : Bool → Dropped
which_of false = Blanks
which_of true = BlanksAndBreaks

-- the slice with the part's start and end in its first two words; unchanged where it has fewer
unfoldable pub part_in : Part → List ℕ → List ℕ
part_in p [] = []
part_in p (a ∷ []) = a ∷ []
part_in p (a ∷ b ∷ r) = p.start ∷ p.end ∷ r

-- what trimming a text leaves in three words
abbrev pub trimmed_in : Bool → List ℕ → List ℕ
trimmed_in breaks s = part_in (trimmed (dropped (which_of breaks)) s) (7 ∷ 8 ∷ 9 ∷ [])

-- a blank, `a`, a blank and LF, without the blanks at its ends and without the breaks too
pub record TrimExample : Type 0 where
  pub blanks : trimmed_in false (ascii " a \n") ≡ 1 ∷ 4 ∷ 9 ∷ []
  pub breaks : trimmed_in true (ascii " a \n") ≡ 1 ∷ 2 ∷ 9 ∷ []
