-- Zeros, as many as n.
use Rattle.std.specs.Prelude.{ℕ, List, replicate}

unfoldable pub zeros : ℕ → List ℕ
zeros n = replicate n 0
