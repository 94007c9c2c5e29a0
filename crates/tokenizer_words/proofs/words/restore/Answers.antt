-- Fit, and then copied, where there is room: proofs/Restoring shows that this stores the state.
use mathlib.Core.Path.{sym, ◌∙◌}
use borrow.Author.Tests.{lt-leb}
use Rattle.text.proofs.Cases.{and_left}
use Rattle.tokenizer_words.specs.Words.{stored_in, readable}
use Rattle.tokenizer_words.proofs.Storing.{has-137, stored-137}
use Rattle.tokenizer_words.proofs.Restoring.{restored}
use Rattle.tokenizer_words.proofs.words.restore.Goals as goal

pub returns-then-dst-lt137 : goal.returns-then-dst-lt137
unfolding stored_in
returns-then-dst-lt137 c =
    record {
      value = sym (sym c.is_fit.ensures ∙ c.if-not-is_fit.false);
      dst_after = rw (lt-leb _ _ c.if-dst-lt137.true);
    }

pub copy_state-requires : goal.copy_state-requires
copy_state-requires c = has-137 _ (and_left (readable _) _ (sym c.is_fit.ensures ∙ c.if-not-is_fit.false))

pub returns : goal.returns
returns c =
    let e = sym c.is_fit.ensures ∙ c.if-not-is_fit.false in
    record {
      value = sym e;
      dst_after =
          c.copy_state.ensures ∙ restored _ _ (and_left (readable _) _ e) c.if-dst-lt137.false ∙ sym (stored-137 _ _ c.if-dst-lt137.false);
    }
