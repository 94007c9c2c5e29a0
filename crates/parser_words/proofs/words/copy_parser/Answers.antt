-- What stands for nothing is read before the words are copied over.
use mathlib.Core.Path.{ap, ◌∙◌}
use Rattle.tokenizer_words.specs.Words.{pasted_in, held_words, state_in}
use Rattle.parser_words.proofs.words.copy_parser.Goals as goal

pub returns : goal.returns
unfolding state_in
returns c =
    c.paste-3.ensures
    ∙ (λ j. pasted_in (c.middle_in-m.ensures j) 137 ((c.paste-2.ensures
    ∙ (λ k. pasted_in ((c.held_words-h.ensures ∙ ap held_words c.held_by-held.ensures) k) 5 (c.paste.ensures k))) j))
