-- `is_meant` compares piece by piece (proofs/Matching).
use mathlib.Core.Path.{sym, ◌∙◌}
use Rattle.token_text.proofs.Matching.{pieces-meant}
use Rattle.token_text.proofs.same.is_meant.Goals as goal

pub returns-in-Pieces : goal.returns-in-Pieces
returns-in-Pieces c = c.is_written.ensures ∙ pieces-meant _ _ _ _ (sym c.in-Pieces.ensures.value)
