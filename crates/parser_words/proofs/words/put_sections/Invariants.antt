-- Invariant: the first k sections are pasted.
use mathlib.Core.Path.{◌≡◌}
use lib.ListN.{take}
use Rattle.tokenizer_words.specs.Words.{pasted}
use Rattle.parser_words.specs.ParserWords.{section_words}
use Rattle.parser_words.proofs.words.put_sections.Given as goal

abbrev pub invariant-loop-k : goal.invariant-loop-k
invariant-loop-k l = l.w ≡ pasted (section_words (take l.k l.s-items)) 148 l.initial.w
