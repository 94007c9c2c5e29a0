-- `rewrite` measures, and writes what fits (proofs/Delivery).
use mathlib.Core.Path.{ap, ◌∙◌}
use Rattle.std.specs.Prelude.{Err}
use native.Mathlib.Omega.{arith}
use Rattle.unescape_pieces.proofs.Ends.{shows_more}
use Rattle.unescape.proofs.Delivery.{short-answered, text-answered, fault-lies, fault-answered}
use Rattle.unescape.proofs.tokens.rewrite.Goals as goal

pub refused-requires : goal.refused-requires
refused-requires c = shows_more _ _ _ (omega arith) (fault-lies c.args.cursor c.args.out.now c.args.from c.args.line c.in-Err.ensures)

pub returns-in-Err : goal.returns-in-Err
returns-in-Err c = let p = fault-answered c.args.cursor c.args.out.now c.args.from c.args.line c.in-Err.ensures in record { value = ap Err c.refused.ensures ∙ p.0; out_after = p.1 }

pub returns-then-out-n : goal.returns-then-out-n
returns-then-out-n c =
    let p = short-answered c.args.cursor c.args.out.now c.args.from c.args.line c.in-Ok.ensures c.if-out-n.true in record { value = ap Err c.from.ensures ∙ p.0; out_after = p.1 }

pub returns : goal.returns
returns c =
    let p = text-answered c.args.cursor c.args.out.now c.args.from c.args.line c.in-Ok.ensures c.if-out-n.false in record { value = p.0; out_after = c.write.ensures ∙ p.1 }
