use native.Mathlib.Omega.{arith}
use Rattle.tokenizer_words.proofs.Pasting.{pasted-no-room, copied_over}
use Rattle.tokenizer_words.proofs.words.paste.Goals as goal

pub returns-then-dst-at : goal.returns-then-dst-at
returns-then-dst-at c = pasted-no-room _ _ _ (omega arith)

pub returns-then-dst-at-2 : goal.returns-then-dst-at-2
returns-then-dst-at-2 c = pasted-no-room _ _ _ (omega arith)

pub returns : goal.returns
returns c = copied_over _ _ _ _ _ c.copy_from_slice.ensures.after (omega arith) (omega arith)
