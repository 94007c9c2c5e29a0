-- The open indentations of two states, pair by pair: what relates them goes on relating them after a step of the same plan.
use Prim.Native.Nat.{ℕ, ◌+◌, ◌≤◌, ◌<◌}
use mathlib.Core.Path.{◌≡◌, refl}
use mathlib.Core.List.{List}
use native.Mathlib.Omega.{arith}
use lib.Dec.{eqb}
use lib.ListN.{length, get_or, set, length-set}
use lib.Seq.{get_or-set_same, get_or-set_other}
use borrow.Author.Tests.{eqb-true, eqb-false}
use Rattle.text.specs.declared.bytes.Part.{Part}
use Rattle.text.proofs.Cases.{by_bool}
use Rattle.tokenizer.specs.Step.{no_part, indents_after, depth_after}
use Rattle.tokenizer_rules.specs.declared.plan.Change.{Change}
use Rattle.tokenizer_rules.specs.declared.plan.Change.TheVariants.{Keep, Open, Close, Hold}

-- the first n of each
abbrev pub Pairs : (Part → Part → Type 0) → List Part → List Part → ℕ → Type 0
Pairs R is js n = (j : ℕ) → j < n → R (get_or is j no_part) (get_or js j no_part)

-- what has to hold where a section is opened
abbrev pub Opening : Change → Type 0 → Type 0
Opening Keep G = Unit {0}
Opening Open G = G
Opening Close G = Unit {0}
Opening Hold G = Unit {0}

pub room_after : (c : Change) (i : Part) (is : List Part) (n : ℕ) → length (indents_after c i is n) ≡ length is
room_after Keep i is n = refl
room_after Open i is n = length-set is n i
room_after Close i is n = refl
room_after Hold i is n = refl

module _ (R : Part → Part → Type 0) (i i' : Part) (is js : List Part) (n : ℕ) where
  opened : n < length is → n < length js → R i i' → Pairs R is js n → Pairs R (set is n i) (set js n i') (n + 1)
  opened h k x o j l =
      by_bool (eqb j n)
      (λ e. rw (eqb-true j n e, get_or-set_same is n i no_part h, get_or-set_same js n i' no_part k) x)
      (λ e.
      let d = eqb-false j n e in
      rw (get_or-set_other is n j i no_part d, get_or-set_other js n j i' no_part d) (o j (omega arith)))

  pub pairs-after : (c : Change) → depth_after c n ≤ length is → depth_after c n ≤ length js → Opening c (R i i') → Pairs R is js n
      → Pairs R (indents_after c i is n) (indents_after c i' js n) (depth_after c n)
  pairs-after Keep h k x o = o
  pairs-after Open h k x o = opened (omega arith) (omega arith) x o
  pairs-after Close h k x o = λ j l. o j (omega arith)
  pairs-after Hold h k x o = λ j l. o j (omega arith)
