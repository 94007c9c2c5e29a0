-- The example of `conl_trim` is computed.
use mathlib.Core.Path.{refl}
use Rattle.abi.specs.Lent.{which_of, part_in, TrimExample}
use Rattle.text.specs.Trimming.{dropped, kept_end, trimmed}
use Rattle.text.specs.Bytes.{is_blank, is_break}

pub trim-example : TrimExample
unfolding which_of part_in dropped kept_end trimmed is_blank is_break
trim-example = record { blanks = refl; breaks = refl }
