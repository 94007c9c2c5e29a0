-- The claims, and an answer read back from its words.
use Prim.Native.Nat.{ℕ}
use mathlib.Core.Path.{◌≡◌, refl, sym, ap, ◌∙◌}
use mathlib.Core.List.{List, [], ◌∷◌}
use lib.ListN.{length, get_or}
use borrow.Author.Tests.{le-leb}
use Rattle.std.proofs.Common.{None, Some, Ok, Err}
use Rattle.std.specs.Result.{result_unwrap_or}
use Rattle.text.specs.Numbers.{error}
use Rattle.text.specs.Refusals.{refusal_of}
use Rattle.text.specs.declared.refusals.Refusal.TheVariants.{InvalidUtf8}
use Rattle.text.proofs.Numbered.{refusals-back}
use Rattle.look_up.specs.Entries.{Outcome}
use Rattle.look_up.proofs.Searched.{look-up-over}
use Rattle.found_words.specs.Found.{found_words, found_in}
use Rattle.found_words.specs.Claims.{FoundOver, FoundTold, Layout}

pub found-over : FoundOver
unfolding found_in found_words
found-over d k a l h = rw (le-leb 5 (length a) h, look-up-over d k l)

-- an answer is read back by its first word
abbrev found_as : List ℕ → Outcome
found_as w =
    get_or
    (Ok None
    ∷ Ok (Some (record { line = get_or w 2 0; part = record { start = get_or w 3 0; end = get_or w 4 0 } }))
    ∷ Err (error (result_unwrap_or (refusal_of (get_or w 1 0)) InvalidUtf8) (get_or w 2 0))
    ∷ [])
    (get_or w 0 0)
    (Ok None)

found_back : (a : Outcome) → found_as (found_words a) ≡ a
unfolding found_words
found_back (Ok None) = refl
found_back (Ok (Some f)) = refl
found_back (Err e) = rw (refusals-back e.refusal)

pub found-told : FoundTold
found-told a b e = sym (found_back a) ∙ ap found_as e ∙ found_back b

pub layout : Layout
unfolding found_words
layout = record { nothing = refl; found_at = refl; found_refused = refl }
