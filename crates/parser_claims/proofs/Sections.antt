-- The parser's record of sections, an array and a count, shows a list of sections, the innermost first: it gives the
-- same innermost section, and a change to it shows the changed list as long as that has at most 65.
use Rattle.std.specs.Prelude.{Some}
use Prim.Native.Nat.{ℕ, suc, ◌-◌, ◌≤◌, ◌<◌}
use mathlib.Core.Path.{◌≡◌, refl, ap, ◌∙◌}
use mathlib.Core.List.{List, [], ◌∷◌}
use native.Mathlib.Numerals.{add-one, sub-one}
use native.Mathlib.Omega.{arith}
use lib.ListN.{length, get_or, set, length-set}
use lib.Seq.{get_or-set_same, get_or-set_other}
use borrow.Author.Tests.{lt-ltb}
use Rattle.parser.specs.Step.{unsorted, no_sort, innermost_of, sections_after, count_after}
use Rattle.parser.specs.Lists.{innermost, stack_after}
use Rattle.parser_rules.specs.declared.ruling.Change.{Change}
use Rattle.parser_rules.specs.declared.ruling.Change.TheVariants.{Keep, Fix, Open, Close}
use Rattle.parser_rules.specs.declared.ruling.Section.{Section}

-- the first n sections of the array are these
pub data Shows (a : List Section) : ℕ → List Section → Type 0 where
  none : Shows a 0 []
  one : {n : ℕ} {s : Section} {l : List Section} → get_or a n no_sort ≡ s → Shows a n l → Shows a (suc n) (s ∷ l)

pub record Mirrors (a : List Section) (n : ℕ) (l : List Section) : Type 0 where
  pub size : length a ≡ 65
  pub shows : Shows a n l

pub shows-count : {a : List Section} {n : ℕ} {l : List Section} → Shows a n l → n ≡ length l
shows-count none = refl
shows-count (one e r) = ap suc (shows-count r)

pub shows-innermost : {a : List Section} {n : ℕ} {l : List Section} → Shows a n l → length l ≤ 65 → innermost_of a n ≡ innermost l
unfolding innermost_of
shows-innermost none h = refl
shows-innermost (one {n = n} e r) h = rw (lt-ltb n 65 (omega (arith, shows-count r)), e)

-- a section past the first n is set
set-shows : {a : List Section} {n : ℕ} {l : List Section} (k : ℕ) (x : Section) → n ≤ k → Shows a n l → Shows (set a k x) n l
set-shows k x h none = none
set-shows {a} k x h (one {n = n} e r) =
    one (get_or-set_other a k n x no_sort (λ q. absurd (omega arith)) ∙ e) (set-shows k x (omega arith) r)

-- the section past the first n is set, and counts
set-one : {a : List Section} {n : ℕ} {l : List Section} (x : Section) → n < length a → Shows a n l → Shows (set a n x) (suc n) (x ∷ l)
set-one {a} {n} x h r = one (get_or-set_same a n x no_sort h) (set-shows n x (omega arith) r)

pub mirrors-after : {a : List Section} {n : ℕ} {l : List Section} (c : Change) → Mirrors a n l → length (stack_after c l) ≤ 65
    → Mirrors (sections_after c a n) (count_after c n) (stack_after c l)
unfolding sections_after count_after
mirrors-after Keep m h = m
mirrors-after {a} (Fix s) m h = record { size = length-set a _ _ ∙ m.size; shows = fixed m.shows h }
  where
    fixed : {n : ℕ} {l : List Section} → Shows a n l → length (stack_after (Fix s) l) ≤ 65
        → Shows (set a (n - 1) (record { sort = Some s; line = (get_or a (n - 1) no_sort).line })) n (stack_after (Fix s) l)
    fixed none h = none
    fixed (one e r) h = rw (sub-one, e) (set-one (record { sort = Some s; line = _ }) (omega (arith, m.size, shows-count r)) r)
mirrors-after {a} {n} (Open o) m h = record {
  size = length-set a n (unsorted o) ∙ m.size;
  shows = rw add-one (set-one (unsorted o) (omega (arith, shows-count m.shows)) m.shows);
}
mirrors-after {a} Close m h = record { size = m.size; shows = closed m.shows }
  where
    closed : {n : ℕ} {l : List Section} → Shows a n l → Shows a (n - 1) (stack_after Close l)
    closed none = none
    closed (one e r) = rw sub-one r
