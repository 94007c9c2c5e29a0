-- What the row of an answer does is what the answer does.
use mathlib.Core.Path.{◌≡◌, ap}
use mathlib.Core.List.{List}
use Prim.Native.Nat.{ℕ}
use Rattle.tokenizer.specs.Token.{Answer, values_of}
use Rattle.tokenizer.proofs.Valued.{back}
use Rattle.tokenizer_rows.specs.Rows.{row_of}
use Rattle.look_up.specs.Search.{on_answer, on_row}
use Rattle.look_up.specs.declared.search.Search.{Search}

pub row_is : (d w : List ℕ) (s : Search) (a : Answer) → on_row d w s (row_of (values_of a)) ≡ on_answer d w s a
row_is d w s a = ap (on_answer d w s) (back a)
