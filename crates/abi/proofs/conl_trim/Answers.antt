-- `conl_trim` stores the trimmed part, or nothing where the slice has no room for it (proofs/Writes).
use Rattle.abi.proofs.Writes.{kept, stored}
use mathlib.Core.Path.{sym}
use borrow.Author.Tests.{lt-leb, le-leb}
use Rattle.abi.proofs.conl_trim.Goals as goal

pub returns-then-part-lt2 : goal.returns-then-part-lt2
returns-then-part-lt2 c = record { value = sym (lt-leb _ _ c.if-part-lt2.true); part_after = kept _ _ c.if-part-lt2.true }

pub returns : goal.returns
returns c = record { value = sym (le-leb _ _ c.if-part-lt2.false); part_after = rw (← c.which.ensures, ← c.trim-p.ensures) (stored _ _ c.if-part-lt2.false) }
