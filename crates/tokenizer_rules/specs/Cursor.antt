-- What stands behind the bytes of a step's rest that are passed.
use Rattle.std.specs.Prelude.{ℕ, List, drop}
use Rattle.tokenizer_rules.specs.declared.cursor.Cursor.{Cursor}

abbrev pub text_of : Cursor → List ℕ
text_of s = drop s.at s.rest.now
