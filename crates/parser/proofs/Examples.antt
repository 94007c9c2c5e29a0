-- The rows marked P of document 01's 'Layouts on the test strip' that concern the parser, its listing, and the lines
-- that Outdents carry, computed from the rules.
use Rattle.std.specs.Prelude.{Some, Ok, Err}
use Rattle.tokenizer.specs.Token.{Answer}
use Rattle.text.specs.Numbers.{error}
use Rattle.text.specs.declared.refusals.Refusal.TheVariants.{MissingMultiline, UnexpectedIndent}
use Prim.Native.Nat.{ℕ}
use mathlib.Core.Path.{◌≡◌, refl}
use mathlib.Core.List.{List, [], ◌∷◌}
use mathlib.Core.Bool.{false}
use lib.ListN.{get_or, replicate}
use Rattle.text.specs.Ascii.{ascii}
use Rattle.tokenizer.specs.Step.{fit, fit_open, fresh as fresh_tokenizer}
use Rattle.tokenizer.specs.declared.token.Token.{Token as Tokened}
use Rattle.tokenizer.specs.declared.token.Token.TheVariants as token
use Rattle.text.specs.Bytes.{part}
use Rattle.tokenizer.proofs.Examples.{rules as token_rules}
use Rattle.parser_rules.specs.Ruling.{on_entry, on_outdent, on_indent, settled, after_entry, after_hint, on_token, on_end, ruling_of}
use Rattle.parser.specs.Step.{no_sort, unsorted, innermost_of, sections_after, count_after, after_verdict, step_with, step_kept, step_of}
use Rattle.parser.specs.Lists.{feed, parsed, parse}
use Rattle.parser.specs.declared.state.State.{State}
use Rattle.parser_rules.specs.declared.ruling.Sort.TheVariants.{Map}
use Rattle.parser_rules.specs.declared.ruling.Awaited.{Awaited}
use Rattle.parser_rules.specs.declared.ruling.Awaited.TheVariants as awaited
use Rattle.parser_rules.specs.declared.ruling.Kept.{Kept}
use Rattle.parser_rules.specs.declared.ruling.Kept.TheVariants as kept
use Rattle.tokenizer.specs.declared.state.Step.{Step}

-- what computing a parsing unfolds
unfoldable pub rules : List ℕ → List Answer
unfolding token_rules on_entry on_outdent on_indent settled after_entry after_hint on_token on_end ruling_of feed parsed parse
rules d = parse d

-- empty: no answers
pub empty : parse [] ≡ []
unfolding rules
empty = refl

-- `a = """` LF `;x`: key, hint, Newline, refusal 4 on line 1
pub hint-then-comment : parse (ascii "a = \"\"\"\n;x")
    ≡ Some (Ok (token.MapKey 1 (part 0 1))) ∷ Some (Ok (token.MultilineHint 1 (part 7 7))) ∷ Some (Ok (token.Newline 1)) ∷ Some (Err (error MissingMultiline 1)) ∷ []
unfolding rules
hint-then-comment = refl

-- one space then `a`: refusal 7 on line 1
pub space-a : parse (ascii " a") ≡ Some (Err (error UnexpectedIndent 1)) ∷ []
unfolding rules
space-a = refl

-- `a` LF `  = "x"` LF
pub listing : parse (ascii "a\n  = \"x\"\n")
    ≡ Some (Ok (token.MapKey 1 (part 0 1)))
    ∷ Some (Ok (token.Newline 1))
    ∷ Some (Ok (token.Indent 2))
    ∷ Some (Ok (token.ListItem 2))
    ∷ Some (Ok (token.Value 2 (part 6 9)))
    ∷ Some (Ok (token.Newline 2))
    ∷ Some (Ok (token.Outdent 3 1))
    ∷ []
unfolding rules
listing = refl

-- `=` LF ` a` LF `  b=1` LF ` c=2`: the Outdents carry the lines of `a` and of the item
pub nested : parse (ascii "=\n a\n  b=1\n c=2")
    ≡ Some (Ok (token.ListItem 1))
    ∷ Some (Ok (token.Newline 1))
    ∷ Some (Ok (token.Indent 2))
    ∷ Some (Ok (token.MapKey 2 (part 3 4)))
    ∷ Some (Ok (token.Newline 2))
    ∷ Some (Ok (token.Indent 3))
    ∷ Some (Ok (token.MapKey 3 (part 7 8)))
    ∷ Some (Ok (token.Value 3 (part 9 10)))
    ∷ Some (Ok (token.Newline 3))
    ∷ Some (Ok (token.Outdent 4 2))
    ∷ Some (Ok (token.MapKey 4 (part 12 13)))
    ∷ Some (Ok (token.Value 4 (part 14 15)))
    ∷ Some (Ok (token.Outdent 4 1))
    ∷ []
unfolding rules
nested = refl

-- One step by itself, with t kept, where a map is open for the item of line 2

abbrev keeping : Awaited → Kept → State
keeping a k = record {
  tokenizer = fresh_tokenizer;
  kept = k;
  awaited = a;
  refused = false;
  sections = no_sort ∷ record { sort = Some Map; line = 2 } ∷ replicate 63 no_sort;
  count = 2;
}

-- what computing a step unfolds
unfoldable stepped : Awaited → Tokened → Step State
unfolding rules fresh_tokenizer fit fit_open innermost_of sections_after count_after after_verdict step_with step_kept step_of
stepped a t = step_of [] (keeping a (kept.Token t))

-- an Outdent carries that line
closes : (stepped awaited.Nothing (token.Outdent 4 0)).answer ≡ Some (Ok (token.Outdent 4 2))
unfolding stepped
closes = refl

-- a key leaves it in the record
fixes : get_or (stepped awaited.Nothing (token.MapKey 4 (part 0 0))).state.sections 1 no_sort ≡ record { sort = Some Map; line = 2 }
unfolding stepped
fixes = refl

-- an Indent after a key of line 3 opens a section with that
opens : get_or (stepped (awaited.Value 3) (token.Indent 4)).state.sections 2 no_sort ≡ unsorted 3
unfolding stepped
opens = refl
