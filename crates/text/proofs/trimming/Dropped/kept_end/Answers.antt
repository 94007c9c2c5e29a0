-- Behind the last byte that is not dropped all are, so many as `suffix_len` counts.
use Rattle.std.proofs.Common.{rules}
use Rattle.std.specs.Prelude.{◌+◌}
use Rattle.std.proofs.lemmas.List.Sums.{suffix_len_is}
use Rattle.text.specs.Trimming.{dropped}
use Rattle.text.proofs.Ends.{kept}
use Rattle.text.proofs.trimming.Dropped.kept_end.Goals as goal

pub returns-in-Some : goal.returns-in-Some
returns-in-Some c =
    let p = dropped c.args.self in
    let s = c.args.s.now in
    let e = suffix_len_is p s (c.in-Some.last + 1) 0 (search rules) (search rules) (search rules) in
    search (rules, e, kept p s)

pub returns-in-None : goal.returns-in-None
returns-in-None c =
    let p = dropped c.args.self in
    let s = c.args.s.now in
    let e = suffix_len_is p s 0 0 (search rules) (search rules) (search rules) in
    search (rules, e, kept p s)
