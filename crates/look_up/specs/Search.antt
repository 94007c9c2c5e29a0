-- Intermediate: the look-up as one pass over the parser's answers, what one answer does to a search. proofs/Searched
-- and proofs/Searching show that the pass comes to the law's look-up.
use Rattle.std.specs.Prelude.{Some, None, Ok, Err, ℕ, ◌+◌, ◌<◌, ◌^◌, List, Option, cond, eqb, length}
use Rattle.tokenizer.specs.Token.{Answer}
use Rattle.std.specs.declared.ops.ControlFlow.{ControlFlow}
use Rattle.std.specs.declared.ops.ControlFlow.TheVariants.{Break, Continue}
use Rattle.text.specs.declared.bytes.Part.{Part}
use Rattle.tokenizer.specs.declared.token.Token.{Token}
use Rattle.tokenizer.specs.declared.token.Token.TheVariants as token
use Rattle.tokenizer.specs.Said.{answer_by}
use Rattle.tokenizer_rows.specs.Rows.{said_in}
use Rattle.look_up.specs.Entries.{Outcome, is_named}
use Rattle.look_up.specs.declared.search.Found.{Found}
use Rattle.look_up.specs.declared.search.Hit.{Hit}
use Rattle.look_up.specs.declared.search.Search.{Search}

-- an answer ends the look-up, or it goes on
abbrev pub Turn : Type 0
Turn = ControlFlow Outcome Search

-- the counts have room for one more
abbrev pub HasRoom : Search → Type 0
HasRoom s = (s.indents + 1 < 2 ^ 64) × (s.outdents + 1 < 2 ^ 64)

abbrev pub found_at : Hit → ℕ → Found
found_at h e = record { line = h.line; part = record { start = h.start; end = e } }

abbrev pub closed_at : Option Hit → ℕ → Outcome
closed_at None e = Ok None
closed_at (Some h) e = Ok (Some (found_at h e))

-- a top-level key after what was hit, or where nothing was
unfoldable pub on_top_key : List ℕ → List ℕ → Search → ℕ → Part → Option Hit → Turn
on_top_key d w s l p (Some h) = Break (closed_at (Some h) p.start)
on_top_key d w s l p None =
    cond (is_named d w (record { line = l; text = p }))
    (Continue (record { indents = s.indents; outdents = s.outdents; hit = Some (record { line = l; start = p.start }) }))
    (Continue s)

unfoldable pub on_key : List ℕ → List ℕ → Search → ℕ → Part → Turn
on_key d w s l p = cond (eqb s.indents s.outdents) (on_top_key d w s l p s.hit) (Continue s)

unfoldable pub on_token : List ℕ → List ℕ → Search → Token → Turn
on_token d w s (token.Newline l) = Continue s
on_token d w s (token.Comment l p) = Continue s
on_token d w s (token.Indent l) = Continue (record { indents = s.indents + 1; outdents = s.outdents; hit = s.hit })
on_token d w s (token.Outdent l o) = Continue (record { indents = s.indents; outdents = s.outdents + 1; hit = s.hit })
on_token d w s (token.ListItem l) = Continue s
on_token d w s (token.MapKey l p) = on_key d w s l p
on_token d w s (token.Value l p) = Continue s
on_token d w s (token.MultilineHint l p) = Continue s
on_token d w s (token.MultilineValue l i p) = Continue s
on_token d w s (token.NoValue l) = Continue s

unfoldable pub on_answer : List ℕ → List ℕ → Search → Answer → Turn
on_answer d w s None = Break (closed_at s.hit (length d))
on_answer d w s (Some (Ok t)) = on_token d w s t
on_answer d w s (Some (Err e)) = Break (Err e)

-- the same by the row of an answer
abbrev pub on_row : List ℕ → List ℕ → Search → List ℕ → Turn
on_row d w s r = on_answer d w s (answer_by (said_in r))
