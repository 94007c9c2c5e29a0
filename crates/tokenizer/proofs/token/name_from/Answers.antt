use native.Mathlib.Omega.{arith}
use Rattle.tokenizer.proofs.Padding.{padded-at}
use Rattle.tokenizer.proofs.token.name_from.Goals as goal

pub returns : goal.returns
returns c = padded-at _ _ _ (omega arith) (rw c.copy_from_slice.ensures.after)
