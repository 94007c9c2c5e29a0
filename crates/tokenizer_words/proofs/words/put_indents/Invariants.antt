-- Invariant: the first k slots are pasted.
use mathlib.Core.Path.{◌≡◌}
use lib.ListN.{length, take}
use Rattle.tokenizer_words.specs.Words.{pasted, part_words}
use Rattle.tokenizer_words.proofs.words.put_indents.Given as goal

abbrev pub invariant-loop-k : goal.invariant-loop-k
invariant-loop-k l = (length l.w ≡ length l.initial.w) × (l.w ≡ pasted (part_words (take l.k l.fn.indents)) 9 l.initial.w)
