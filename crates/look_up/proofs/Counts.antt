-- A search counts at most one more at each answer.
use Rattle.std.specs.Prelude.{Some, None, Ok, Err}
use Rattle.tokenizer.specs.Token.{Answer}
use Prim.Native.Nat.{ℕ, suc, ◌+◌, ◌≤◌}
use mathlib.Core.List.{List}
use native.Mathlib.Omega.{arith}
use lib.Dec.{eqb}
use Rattle.std.proofs.Common.{Option, None, Some, Continue, Break}
use Rattle.text.specs.declared.bytes.Part.{Part}
use Rattle.text.proofs.Cases.{on-cond}
use Rattle.tokenizer.specs.declared.token.Token.{Token}
use Rattle.tokenizer.specs.declared.token.Token.TheVariants as token
use Rattle.look_up.specs.Entries.{is_named}
use Rattle.look_up.specs.Search.{Turn, on_top_key, on_key, on_token, on_answer}
use Rattle.look_up.specs.declared.search.Hit.{Hit}
use Rattle.look_up.specs.declared.search.Search.{Search}

-- how many Indents and Outdents a search has counted
abbrev pub counted : Search → ℕ
counted s = s.indents + s.outdents

-- a search that goes on counts at most n
abbrev pub Counts : ℕ → Turn → Type 0
Counts n (Continue s) = counted s ≤ n
Counts n (Break a) = Unit {0}

module _ (d w : List ℕ) (s : Search) where
  top-key-counts : (l : ℕ) (p : Part) (h : Option Hit) → Counts (suc (counted s)) (on_top_key d w s l p h)
  unfolding on_top_key
  top-key-counts l p None = on-cond (Counts (suc (counted s))) (is_named d w (record { line = l; text = p })) (λ e. omega arith) (λ e. omega arith)
  top-key-counts l p (Some h) = tt

  token-counts : (t : Token) → Counts (suc (counted s)) (on_token d w s t)
  unfolding on_token on_key
  token-counts (token.Newline l) = omega arith
  token-counts (token.Comment l p) = omega arith
  token-counts (token.Indent l) = omega arith
  token-counts (token.Outdent l o) = omega arith
  token-counts (token.ListItem l) = omega arith
  token-counts (token.MapKey l p) =
      on-cond (Counts (suc (counted s))) (eqb s.indents s.outdents) (λ e. top-key-counts l p s.hit) (λ e. omega arith)
  token-counts (token.Value l p) = omega arith
  token-counts (token.MultilineHint l p) = omega arith
  token-counts (token.MultilineValue l i p) = omega arith
  token-counts (token.NoValue l) = omega arith

  pub answer-counts : (a : Answer) → Counts (suc (counted s)) (on_answer d w s a)
  unfolding on_answer
  answer-counts None = tt
  answer-counts (Some (Ok t)) = token-counts t
  answer-counts (Some (Err e)) = tt
