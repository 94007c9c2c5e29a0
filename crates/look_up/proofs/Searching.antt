-- The look-up's loop: what holds of a search at a state of the parsing, and that a step keeps it or gives what the rule asks.
use Rattle.std.specs.Prelude.{None}
use Rattle.tokenizer.specs.Token.{values_of}
use Prim.Native.Nat.{ℕ, ◌+◌, ◌*◌, ◌≤◌, ◌<◌}
use mathlib.Core.Path.{◌≡◌, sym, ap, ◌∙◌}
use mathlib.Core.List.{List, ◌∷◌}
use mathlib.Core.Bool.{true, false}
use native.Mathlib.Omega.{arith}
use lib.ListN.{length}
use Rattle.std.proofs.Common.{None, Continue, Break}
use Rattle.text.proofs.Cases.{by_bool}
use Rattle.parser.specs.Step.{step_of, fresh}
use Rattle.tokenizer.specs.Lists.{is_end}
use Rattle.parser.specs.declared.state.State.{State}
use Rattle.tokenizer_rows.specs.Rows.{row_of}
use Rattle.tokenizer_claims.proofs.Readings.{is-end}
use Rattle.parser_claims.specs.Rests.{rest, Stands}
use Rattle.parser_claims.proofs.Rests.{fresh-stands, rest_end, rest-step, step-stands}
use Rattle.parser_claims.proofs.Ordered.{Ordered, tail, parse-ordered}
use Rattle.look_up.specs.Entries.{Outcome, look_up}
use Rattle.look_up.specs.Search.{Turn, on_answer, on_row}
use Rattle.look_up.specs.declared.search.Search.{Search}
use Rattle.look_up.proofs.Rows.{row_is}
use Rattle.look_up.proofs.Counts.{counted, answer-counts}
use Rattle.look_up.proofs.Searched.{searched, turned, searched-end, searched-step}

-- at a state of the parsing, a search finds in what is left what the look-up finds
pub record Searching (d w : List ℕ) (t : State) (s : Search) : Type 0 where
  pub stands : Stands d t
  pub from : ℕ
  pub ordered : Ordered from (rest d t)
  pub counts : counted s + length (rest d t) ≤ 2 * length d
  pub finds : look_up d w ≡ searched d w s (rest d t)

pub begins : (d w : List ℕ) → length d ≤ 16777216 → Searching d w fresh (record { indents = 0; outdents = 0; hit = None })
unfolding look_up searched
begins d w h =
    let r = fresh-stands d h in
    record { stands = r.1; from = 0; ordered = rw r.0 (parse-ordered d h); counts = omega (arith, r.1.bound); finds = rw r.0 }

module _ (d w : List ℕ) (t : State) (s : Search) (c : Searching d w t s) where
  abbrev afterwards : Turn → Outcome
  afterwards y = turned d w y (rest d (step_of d t).state)

  at-end : is_end (step_of d t).answer ≡ true → searched d w s (rest d t) ≡ afterwards (on_answer d w s (step_of d t).answer)
  unfolding on_answer
  at-end e =
      ap (searched d w s) (rest_end d t e)
      ∙ searched-end d w s
      ∙ sym (ap (λ a. afterwards (on_answer d w s a)) (is-end (step_of d t).answer e))

  at-answer : is_end (step_of d t).answer ≡ false → searched d w s (rest d t) ≡ afterwards (on_answer d w s (step_of d t).answer)
  at-answer e = let r = rest-step d t c.stands e in ap (searched d w s) r ∙ searched-step d w s (rw r at c.ordered)

  turns : look_up d w ≡ afterwards (on_answer d w s (step_of d t).answer)
  turns = c.finds ∙ by_bool (is_end (step_of d t).answer) at-end at-answer

  module _ {u : Search} (g : on_answer d w s (step_of d t).answer ≡ Continue u) where
    not_end : is_end (step_of d t).answer ≡ false
    unfolding on_answer
    not_end =
        by_bool (is_end (step_of d t).answer)
        (λ e. let q = sym g ∙ ap (on_answer d w s) (is-end _ e) in absurd cc)
        (λ e. e)

    left : rest d t ≡ (step_of d t).answer ∷ rest d (step_of d t).state
    left = rest-step d t c.stands not_end

    less : length (rest d (step_of d t).state) < length (rest d t)
    less = omega (arith, ap length left)

    again : Searching d w (step_of d t).state u
    again =
        let o = tail (rw left at c.ordered) in
        record {
          stands = step-stands d t c.stands not_end;
          from = o.0;
          ordered = o.1;
          counts = omega (arith, c.counts, less, rw g at (answer-counts d w s (step_of d t).answer));
          finds = turns ∙ ap afterwards g;
        }

  -- the turn that the row of the step's answer makes
  module _ {r : List ℕ} (v : r ≡ row_of (values_of (step_of d t).answer)) where
    module _ {y : Turn} (q : y ≡ on_row d w s r) where
      the-turn : y ≡ on_answer d w s (step_of d t).answer
      the-turn = q ∙ ap (on_row d w s) v ∙ row_is d w s (step_of d t).answer

      pub finds : {a : Outcome} → y ≡ Break a → a ≡ look_up d w
      finds e = sym (turns ∙ ap afterwards (sym the-turn ∙ e))

      module _ {x : State} (i : x ≡ (step_of d t).state) where
        pub falls : {u : Search} → y ≡ Continue u → length (rest d x) < length (rest d t)
        falls e = rw i (less (sym the-turn ∙ e))

        pub goes_on : {u : Search} → y ≡ Continue u → Searching d w x u
        goes_on e = rw i (again (sym the-turn ∙ e))
