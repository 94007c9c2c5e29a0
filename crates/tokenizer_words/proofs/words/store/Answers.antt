-- The front, then the slots, are the words; nothing where there are too few.
use mathlib.Core.Path.{sym, ◌∙◌}
use borrow.Author.Tests.{lt-leb, le-leb}
use native.Mathlib.Omega.{arith}
use Rattle.tokenizer_words.specs.Words.{stored_in}
use Rattle.tokenizer_words.proofs.Pasting.{pasted-room}
use Rattle.tokenizer_words.proofs.Slots.{owned-64, both-written}
use Rattle.tokenizer_words.proofs.words.store.Goals as goal

pub returns-then-words-lt137 : goal.returns-then-words-lt137
unfolding stored_in
returns-then-words-lt137 c = let e = lt-leb _ _ c.if-words-lt137.true in record { value = sym e; words_after = rw e }

pub returns : goal.returns
unfolding stored_in
returns c =
    let e = le-leb _ _ c.if-words-lt137.false in
    let w = c.paste.ensures ∙ pasted-room _ _ _ (omega arith) in record { value = sym e; words_after = rw e (c.put_indents.ensures ∙ rw (w, c.front_words-front.ensures, c.front.ensures) (both-written _ _ (owned-64 c.args.s c.well_formed.0))) }
