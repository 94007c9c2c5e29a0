-- The port's own: the numbers of a section's sort and of what is awaited, by which a step is judged and which stand in
-- the words of a state. proofs/Examples computes them.
use Rattle.std.specs.Prelude.{Option, Some, None, ℕ}
use Rattle.parser_rules.specs.declared.ruling.Sort.{Sort}
use Rattle.parser_rules.specs.declared.ruling.Sort.TheVariants.{Map, List}
use Rattle.parser_rules.specs.declared.ruling.Awaited.{Awaited}
use Rattle.parser_rules.specs.declared.ruling.Awaited.TheVariants.{Nothing, Value, Multiline}

-- 0 where no key or item has fixed it
abbrev pub number_of_sort : Option Sort → ℕ
number_of_sort None = 0
number_of_sort (Some Map) = 1
number_of_sort (Some List) = 2

abbrev pub awaited_number : Awaited → ℕ
awaited_number Nothing = 0
awaited_number (Value l) = 1
awaited_number (Multiline l) = 2

-- the line of the key or item that asks for it
abbrev pub awaited_line : Awaited → ℕ
awaited_line Nothing = 0
awaited_line (Value l) = l
awaited_line (Multiline l) = l
