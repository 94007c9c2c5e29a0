-- `plain` shows what is delivered of a text that may be read (proofs/Ruling).
use mathlib.Core.Path.{sym, ◌∙◌}
use Rattle.unescape.proofs.Ruling.{plain-ruled}
use Rattle.unescape.proofs.tokens.plain.Goals as goal

pub returns : goal.returns
returns c = c.plain_part.ensures ∙ plain-ruled _ _ (sym c.in-Ok.ensures.value)
