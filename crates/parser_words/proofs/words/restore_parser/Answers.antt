-- Readable, fit, and then copied, where there is room: proofs/Restoring shows that this stores the state.
use mathlib.Core.Path.{refl, sym, ◌∙◌}
use borrow.Author.Tests.{lt-leb}
use Rattle.parser_words.specs.ParserWords.{parser_stored_in, parser_in}
use Rattle.parser_words.proofs.Tests.{has-278, stored-278}
use Rattle.parser_words.proofs.Restoring.{tokenizer-reads, restored-parser}
use Rattle.parser_words.proofs.words.restore_parser.Goals as goal

pub returns-then-not-is_fit : goal.returns-then-not-is_fit
unfolding parser_in
returns-then-not-is_fit c =
    let r = sym c.is_parser.ensures ∙ c.if-not-is_parser.false in
    let f = rw (tokenizer-reads _ r) at (sym c.is_fit.ensures ∙ c.if-not-is_fit.true) in
    record { value = rw (r, f); dst_after = refl }

pub returns-then-dst-lt278 : goal.returns-then-dst-lt278
unfolding parser_in parser_stored_in
returns-then-dst-lt278 c =
    let r = sym c.is_parser.ensures ∙ c.if-not-is_parser.false in
    let f = rw (tokenizer-reads _ r) at (sym c.is_fit.ensures ∙ c.if-not-is_fit.false) in
    record { value = rw (r, f); dst_after = rw (lt-leb _ _ c.if-dst-lt278.true) }

pub copy_parser-requires : goal.copy_parser-requires
copy_parser-requires c = has-278 _ (sym c.is_parser.ensures ∙ c.if-not-is_parser.false)

pub returns : goal.returns
unfolding parser_in
returns c =
    let r = sym c.is_parser.ensures ∙ c.if-not-is_parser.false in
    let f = rw (tokenizer-reads _ r) at (sym c.is_fit.ensures ∙ c.if-not-is_fit.false) in
    record {
      value = rw (r, f);
      dst_after =
          c.copy_parser.ensures ∙ restored-parser _ _ r c.if-dst-lt278.false ∙ sym (stored-278 _ _ c.if-dst-lt278.false);
    }
