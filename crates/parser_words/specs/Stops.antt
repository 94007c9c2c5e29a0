-- The port's own: the answers of the parser at which a batch stops. Unlike the tokenizer's, its steps can come to an unfit state
-- from a fit one, in states that no reading reaches.
use Rattle.std.specs.Prelude.{Some, None, Ok, Err, Bool, true, false, eqb}
use Rattle.tokenizer.specs.Token.{Answer}
use Rattle.text.specs.Numbers.{number_of, unfit_state}

unfoldable pub is_unfit : Answer → Bool
is_unfit None = false
is_unfit (Some (Ok t)) = false
is_unfit (Some (Err e)) = eqb (number_of e.refusal) unfit_state

-- the parser's steps stop at End and at 15
unfoldable pub is_stop : Answer → Bool
is_stop None = true
is_stop (Some (Ok t)) = false
is_stop (Some (Err e)) = eqb (number_of e.refusal) unfit_state
