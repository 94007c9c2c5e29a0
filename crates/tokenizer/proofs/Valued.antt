-- An answer is read back from its number and values: answers of equal values are equal.
use Rattle.std.specs.Prelude.{Some, None, Ok, Err}
use Prim.Native.Nat.{ℕ, ◌+◌, ◌-◌}
use mathlib.Core.Path.{◌≡◌, refl, sym, ap, ◌∙◌}
use mathlib.Core.Bool.{false}
use native.Mathlib.Omega.{arith}
use lib.Dec.{eqb, ltb}
use borrow.Author.Tests.{le-ltb, ne_eqb}
use Rattle.text.specs.Numbers.{number_of}
use Rattle.text.proofs.Numbered.{refusals-back}
use Rattle.tokenizer.specs.Token.{Answer, token_values, values_of}
use Rattle.tokenizer.specs.Lists.{is_end}
use Rattle.tokenizer.specs.Said.{said_by, token_of, answer_by}
use Rattle.tokenizer.specs.declared.token.Token.TheVariants as token

past : (n : ℕ) → ltb (256 + n) 256 ≡ false
past n = le-ltb (256 + n) 256 (omega arith)

pub back : (a : Answer) → answer_by (said_by (values_of a)) ≡ a
unfolding answer_by token_of values_of token_values
back None = refl
back (Some (Ok (token.Newline l))) = refl
back (Some (Ok (token.Comment l p))) = refl
back (Some (Ok (token.Indent l))) = refl
back (Some (Ok (token.Outdent l o))) = refl
back (Some (Ok (token.ListItem l))) = refl
back (Some (Ok (token.MapKey l p))) = refl
back (Some (Ok (token.Value l p))) = refl
back (Some (Ok (token.MultilineHint l p))) = refl
back (Some (Ok (token.MultilineValue l i p))) = refl
back (Some (Ok (token.NoValue l))) = refl
back (Some (Err x)) =
    let n = number_of x.refusal in
    let e : (256 + n) - 256 ≡ n = omega arith in
    rw (ne_eqb (256 + n) 0 (λ q. omega arith), past n, e, refusals-back x.refusal)

pub values-injective : (a b : Answer) → values_of a ≡ values_of b → a ≡ b
values-injective a b e = sym (back a) ∙ ap (λ v. answer_by (said_by v)) e ∙ back b

-- End has the number 0, and nothing else
pub end-number : (a : Answer) → eqb (values_of a).number 0 ≡ is_end a
unfolding values_of token_values is_end
end-number None = refl
end-number (Some (Ok (token.Newline l))) = refl
end-number (Some (Ok (token.Comment l p))) = refl
end-number (Some (Ok (token.Indent l))) = refl
end-number (Some (Ok (token.Outdent l o))) = refl
end-number (Some (Ok (token.ListItem l))) = refl
end-number (Some (Ok (token.MapKey l p))) = refl
end-number (Some (Ok (token.Value l p))) = refl
end-number (Some (Ok (token.MultilineHint l p))) = refl
end-number (Some (Ok (token.MultilineValue l i p))) = refl
end-number (Some (Ok (token.NoValue l))) = refl
end-number (Some (Err x)) = ne_eqb (256 + number_of x.refusal) 0 (λ q. omega arith)
