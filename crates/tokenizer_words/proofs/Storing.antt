-- What is stored in 137 words, and that a readable state has them.
use Prim.Native.Nat.{ℕ, ◌≤◌}
use mathlib.Core.Path.{◌≡◌}
use mathlib.Core.List.{List, ◌++◌}
use mathlib.Core.Bool.{Bool, true, ◌&&◌}
use lib.Dec.{leb}
use lib.ListN.{length, drop}
use borrow.Author.Tests.{leb-true, le-leb}
use Rattle.text.proofs.Cases.{and_left}
use Rattle.tokenizer.specs.declared.state.State.{State}
use Rattle.tokenizer_words.specs.Words.{words_of, stored_in, readable}

-- the first of two tests, of which both hold
pub enough : (n m : ℕ) (b : Bool) → (leb n m && b) ≡ true → n ≤ m
enough n m b e = leb-true n m (and_left (leb n m) b e)

pub has-137 : (w : List ℕ) → readable w ≡ true → 137 ≤ length w
unfolding readable
has-137 w e = enough 137 (length w) _ e

pub stored-137 : (s : State) (w : List ℕ) → 137 ≤ length w → stored_in s w ≡ words_of s ++ drop 137 w
unfolding stored_in
stored-137 s w h = rw (le-leb 137 (length w) h)
