use mathlib.Core.Path.{refl}
use native.Mathlib.Omega.{arith}
use lib.ListN.{length-set}
use Rattle.tokenizer_words.specs.Words.{part_words}
use Rattle.tokenizer_words.proofs.Pasting.{pasted-none}
use Rattle.tokenizer_words.proofs.Slots.{write-more}
use Rattle.tokenizer_words.proofs.words.put_indents.Goals as goal

pub loop-k-init : goal.loop-k-init
unfolding part_words
loop-k-init c = (refl, pasted-none _ _)

pub loop-k-preserved : goal.loop-k-preserved
loop-k-preserved c =
    (simp length-set c.loop-k.invariant.0, rw c.loop-k.invariant.1 (write-more _ _ c.args.w.now c.loop-k.k (omega arith) (omega arith)))
