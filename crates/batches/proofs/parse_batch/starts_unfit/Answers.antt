-- A batch of one stops by 15 if the first step does (proofs/Taking).
use mathlib.Core.Path.{ap, ◌∙◌}
use lib.Dec.{eqb}
use Rattle.std.specs.Prelude.{Some}
use Rattle.std.specs.Option.{option_eq}
use borrow.Author.Tests.{lt-ltb}
use Rattle.batches.specs.Walks.{stepping}
use Rattle.step_words.specs.declared.step.Layer.TheVariants.{Parser}
use Rattle.batches.proofs.Single.{not-unfit}
use Rattle.batches.proofs.Taking.{last_one}
use Rattle.batches.proofs.parse_batch.starts_unfit.Goals as goal

pub returns : goal.returns
returns c =
    rw (lt-ltb _ _ c.if-room-ge7.false)
    (c.eq.ensures ∙ ap (λ x. option_eq eqb x (Some 271)) c.take_rows-t.ensures.last_value ∙ last_one (stepping Parser c.args.doc.now) c.args.words.now (not-unfit _))
