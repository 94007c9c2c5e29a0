-- The tokenizer's words, then the middle, then the sections; nothing where there is no room for them.
use mathlib.Core.Path.{sym, ◌∙◌}
use native.Mathlib.Omega.{arith}
use borrow.Author.Tests.{lt-leb, le-leb}
use Rattle.tokenizer_words.proofs.Pasting.{pasted-room}
use Rattle.tokenizer_words.proofs.Slots.{owned-64}
use Rattle.tokenizer_words.proofs.Storing.{stored-137}
use Rattle.parser_words.specs.ParserWords.{parser_stored_in}
use Rattle.parser_words.proofs.Sections.{owned-65, all-written}
use Rattle.parser_words.proofs.words.store_parser.Goals as goal

pub returns-then-words-lt278 : goal.returns-then-words-lt278
unfolding parser_stored_in
returns-then-words-lt278 c = let e = lt-leb _ _ c.if-words-lt278.true in record { value = sym e; words_after = rw e }

pub returns : goal.returns
unfolding parser_stored_in
returns c =
    let e = le-leb _ _ c.if-words-lt278.false in
    let t = c.store.ensures.words_after ∙ stored-137 _ _ (omega (arith, c.if-words-lt278.false)) in
    let q = c.paste.ensures ∙ pasted-room _ _ _ (omega (arith, c.if-words-lt278.false, c.store.auto)) in
    let w = all-written c.args.s c.args.words.now (owned-64 c.args.s.tokenizer c.well_formed.0.1.1.0) (owned-65 c.args.s c.well_formed.0) in record { value = sym e; words_after = rw e (c.put_sections.ensures ∙ rw (q, c.middle-m.ensures, t) w) }
