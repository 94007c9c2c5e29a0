-- What a test tells of the words of a readable state.
use Prim.Native.Nat.{ℕ, ◌≤◌}
use mathlib.Core.Path.{◌≡◌}
use mathlib.Core.List.{List, ◌++◌}
use mathlib.Core.Bool.{true}
use lib.ListN.{length, drop}
use borrow.Author.Tests.{le-leb}
use Rattle.parser.specs.declared.state.State.{State}
use Rattle.tokenizer_words.proofs.Storing.{enough}
use Rattle.parser_words.specs.ParserWords.{parser_words, parser_stored_in, parser_readable}

pub has-278 : (w : List ℕ) → parser_readable w ≡ true → 278 ≤ length w
unfolding parser_readable
has-278 w e = enough 278 (length w) _ e

pub stored-278 : (s : State) (w : List ℕ) → 278 ≤ length w → parser_stored_in s w ≡ parser_words s ++ drop 278 w
unfolding parser_stored_in
stored-278 s w h = rw (le-leb 278 (length w) h)
