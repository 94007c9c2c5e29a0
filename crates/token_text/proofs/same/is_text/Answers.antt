-- `is_text` compares a text that lies in the document, and asks the rest of one that is the same (unescape_source/proofs/Sound,
-- proofs/Matching).
use mathlib.Core.Path.{◌∙◌}
use Rattle.token_text.proofs.Matching.{unfit-none, same_text, other_none}
use Rattle.token_text.proofs.same.is_text.Goals as goal

pub returns-then-not-part_fits : goal.returns-then-not-part_fits
returns-then-not-part_fits c =
    unfit-none _ _ _ c.source_of-w.ensures c.part_fits.ensures c.part_fits-2.ensures c.if-not-part_fits.true

pub returns-then-not-is_meant : goal.returns-then-not-is_meant
returns-then-not-is_meant c =
    other_none _ _ _ c.source_of-w.ensures c.is_meant.ensures c.if-not-is_meant.true

pub returns : goal.returns
returns c =
    c.is_ok.ensures.value ∙ same_text _ _ _ c.source_of-w.ensures c.is_meant.ensures _ c.if-not-is_meant.false c.source_in.ensures.value
