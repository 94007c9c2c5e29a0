use native.Mathlib.Omega.{arith}
use Rattle.parser_words.specs.ParserWords.{section_words}
use Rattle.tokenizer_words.proofs.Pasting.{pasted-none}
use Rattle.parser_words.proofs.Sections.{write-section}
use Rattle.parser_words.proofs.words.put_sections.Goals as goal

pub loop-k-init : goal.loop-k-init
unfolding section_words
loop-k-init c = pasted-none _ _

pub loop-k-preserved : goal.loop-k-preserved
loop-k-preserved c =
    rw (c.loop-k.invariant, c.sort_number.ensures) (write-section _ _ c.args.w.now c.loop-k.k (omega (arith, c.loop-k-test.true)) (omega arith))
