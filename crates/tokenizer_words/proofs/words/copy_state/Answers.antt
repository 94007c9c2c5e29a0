-- What is held is read before the words are copied over.
use mathlib.Core.Path.{ap, ◌∙◌}
use Rattle.tokenizer_words.specs.Words.{pasted_in, held_words, state_in}
use Rattle.tokenizer_words.proofs.words.copy_state.Goals as goal

pub returns : goal.returns
unfolding state_in
returns c =
    c.paste-2.ensures ∙ (λ j. pasted_in ((c.held_words-h.ensures ∙ ap held_words c.held_by-held.ensures) j) 5 (c.paste.ensures j))
