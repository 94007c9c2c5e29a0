-- What is judged stands for the ruling (proofs/Law).
use Rattle.std.specs.Prelude.{Some, None, Ok}
use mathlib.Core.Path.{sym}
use Rattle.tokenizer.specs.Token.{values_of}
use Rattle.parser_rules.specs.Ruling.{ruling_of}
use Rattle.parser_rules.proofs.Law.{stands-for}
use Rattle.parser_rules.proofs.ruling.rule.Goals as goal

pub returns-in_default : goal.returns-in_default
unfolding values_of
returns-in_default c =
    rw (c.made.ensures, c.judge-v.ensures, c.opened_line-opened.ensures, c.sort_number-s.ensures, c.number-a.ensures, c.in_default.is) (sym (stands-for c.args.awaited c.args.innermost c.args.full None))

pub returns-in-Ok : goal.returns-in-Ok
unfolding values_of
returns-in-Ok c =
    rw (c.made-in-Ok.ensures, c.judge-v-in-Ok.ensures, c.from.ensures, c.opened_line-opened.ensures, c.sort_number-s.ensures, c.number-a.ensures, c.in-Some.is, c.in-Ok.is)
    (sym (stands-for c.args.awaited c.args.innermost c.args.full (Some (Ok _))))

pub returns-in-Err : goal.returns-in-Err
unfolding ruling_of
returns-in-Err c = rw (c.refuse.ensures, c.in-Some.is, c.in-Err.is)
