-- The text stands one byte further on.
use mathlib.Core.Path.{◌∙◌}
use lib.Seq.{drop-drop}
use Rattle.tokenizer_rules.specs.Plan.{plan_comment}
use Rattle.tokenizer_rules.specs.declared.plan.Says.TheVariants.{Comment}
use Rattle.tokenizer_rules.proofs.Plans.{told}
use Rattle.tokenizer_rules.proofs.plan.consume_comment.Goals as goal

pub returns : goal.returns
unfolding plan_comment
returns c =
    c.kept.ensures ∙ rw (told Comment _ _ _ c.read.ensures c.map_or.ensures, c.line_end-n.ensures, c.text.ensures, c.after-r.ensures.at, c.after-r.ensures.rest, drop-drop 1 _ _)
