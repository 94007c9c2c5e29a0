-- Words are read back as the state that was written.
use Rattle.text.specs.declared.bytes.Part.{Part}
use Rattle.std.specs.Prelude.{Option, Some, None}
use Prim.Native.Nat.{ℕ, ◌≤◌}
use mathlib.Core.Path.{◌≡◌, refl}
use mathlib.Core.List.{List, ◌++◌}
use mathlib.Core.Bool.{Bool, true, false}
use native.Mathlib.Omega.{arith}
use lib.Dec.{leb}
use lib.ListN.{length, drop, get_or, length-append}
use borrow.Author.Tests.{le-leb}
use Rattle.tokenizer.specs.Step.{fresh}
use Rattle.tokenizer.specs.declared.state.State.{State}
use Rattle.tokenizer_words.specs.Words.{flag, held_words, part_words, front_words, words_of, readable}
use Rattle.tokenizer_words.specs.Claims.{Slots, StatesBack, StoredBack, Layout}
use Rattle.tokenizer_words.proofs.Slots.{held_depth, words-137}
use Rattle.tokenizer_words.proofs.Storing.{stored-137}
use Rattle.tokenizer_words.proofs.Standing.{state-back}

held_tells : (h : Option Part) → leb (get_or (held_words h) 0 0) 1 ≡ true
unfolding held_words
held_tells None = refl
held_tells (Some p) = refl

pub flag-tells : (b : Bool) → leb (flag b) 1 ≡ true
unfolding flag
flag-tells true = refl
flag-tells false = refl

long : (s : State) (r : List ℕ) → Slots s → 137 ≤ length (words_of s ++ r)
long s r e = rw (length-append, words-137 s e) (omega arith)

state-reads : (s : State) (r : List ℕ) → Slots s → readable (words_of s ++ r) ≡ true
unfolding words_of front_words readable
state-reads s r e =
    rw (le-leb 137 (length (words_of s ++ r)) (long s r e))
    (rw (← held_depth s.held s.depth)
    (rw (flag-tells s.marks.indent, flag-tells s.marks.value, flag-tells s.marks.multiline, held_tells s.held)))

pub states-back : StatesBack
states-back s r e = record { state = state-back s r e; reads = state-reads s r e }

pub stored_back : StoredBack
stored_back s w e h = rw (stored-137 s w h) (state-back s (drop 137 w) e)

pub layout : Layout
unfolding fresh flag held_words part_words front_words words_of
layout = record { begins = refl; value_mark = refl; multiline_mark = refl }
