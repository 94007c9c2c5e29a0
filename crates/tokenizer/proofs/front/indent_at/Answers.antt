-- Rule 1 by cases on what is held; the blanks lie within the rest.
use native.Mathlib.Omega.{arith}
use Rattle.text.specs.Trimming.{dropped}
use Rattle.text.specs.declared.trimming.Dropped.TheVariants.{Blanks}
use Rattle.std.proofs.lemmas.List.Sums.{prefix_len-le-length}
use Rattle.tokenizer_scans.specs.Scans.{blanks}
use Rattle.tokenizer.proofs.front.indent_at.Goals as goal

pub overflow_add-result : goal.overflow_add-result
overflow_add-result c =
    omega (arith, c.leading-size.ensures, prefix_len-le-length (dropped Blanks) c.args.rest.now, c.requires)

pub returns-in-None : goal.returns-in-None
unfolding blanks
returns-in-None c = record { part_value = rw (c.in-None.is, c.leading-size.ensures); size_value = rw (c.in-None.is, c.leading-size.ensures) }
