-- Law: document 01, 'Numbers by the place where they are checked': more bytes than a document has are 12, on line 0.
use Rattle.std.specs.Prelude.{ℕ, List, cond, ltb, length, Result, Ok, Err, ⊤}
use Rattle.text.specs.Numbers.{max_document, error}
use Rattle.text.specs.declared.refusals.Refusal.TheVariants.{TooLong}
use Rattle.text.specs.declared.refusals.SyntaxError.{SyntaxError}

abbrev pub within_limit : List ℕ → Result ⊤ SyntaxError
within_limit s = cond (ltb max_document (length s)) (Err (error TooLong 0)) (Ok tt)
