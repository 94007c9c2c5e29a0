-- A token is read back from its row.
use Prim.Native.Nat.{◌≤◌, ◌<◌}
use mathlib.Core.Path.{refl}
use native.Mathlib.Omega.{arith}
use Rattle.tokenizer.specs.Token.{token_values}
use Rattle.tokenizer.specs.declared.token.Token.{Token}
use Rattle.tokenizer.specs.declared.token.Token.TheVariants as token
use Rattle.tokenizer.specs.Said.{token_of}
use Rattle.tokenizer_rows.specs.Rows.{token_in}
use Rattle.tokenizer_rows.specs.Claims.{TokensBack}

-- a token's kind
pub kinds : (t : Token) → (0 < (token_values t).number) × ((token_values t).number ≤ 10)
unfolding token_values
kinds (token.Newline l) = (omega arith, omega arith)
kinds (token.Comment l p) = (omega arith, omega arith)
kinds (token.Indent l) = (omega arith, omega arith)
kinds (token.Outdent l o) = (omega arith, omega arith)
kinds (token.ListItem l) = (omega arith, omega arith)
kinds (token.MapKey l p) = (omega arith, omega arith)
kinds (token.Value l p) = (omega arith, omega arith)
kinds (token.MultilineHint l p) = (omega arith, omega arith)
kinds (token.MultilineValue l i p) = (omega arith, omega arith)
kinds (token.NoValue l) = (omega arith, omega arith)

pub tokens-back : TokensBack
unfolding token_in token_of token_values
tokens-back (token.Newline l) r = refl
tokens-back (token.Comment l p) r = refl
tokens-back (token.Indent l) r = refl
tokens-back (token.Outdent l o) r = refl
tokens-back (token.ListItem l) r = refl
tokens-back (token.MapKey l p) r = refl
tokens-back (token.Value l p) r = refl
tokens-back (token.MultilineHint l p) r = refl
tokens-back (token.MultilineValue l i p) r = refl
tokens-back (token.NoValue l) r = refl
