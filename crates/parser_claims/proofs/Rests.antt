-- The laws by which loops go, from the parsing of the whole document.
use Rattle.tokenizer.specs.Token.{Answer}
use Prim.Native.Nat.{ℕ, zero, suc, ◌*◌, ◌≤◌}
use mathlib.Core.Path.{◌≡◌, refl, sym, ap, ◌∙◌}
use mathlib.Core.List.{List, ◌∷◌}
use mathlib.Core.Bool.{false}
use native.Mathlib.Omega.{arith}
use lib.ListN.{length}
use Rattle.parser.specs.Step.{step_of}
use Rattle.parser.specs.Lists.{Parses, ends, says}
use Rattle.tokenizer.specs.Lists.{is_end}
use Rattle.parser.specs.declared.state.State.{State}
use Rattle.tokenizer_claims.proofs.Readings.{is-end}
use Rattle.parser_claims.specs.Claims.{Fits, All}
use Rattle.parser_claims.specs.Rests.{up_to, rest, Stands, FreshStands, RestEnd, RestStep, StepFits, StepStands}
use Rattle.parser_claims.proofs.Steps.{Comes}
use Rattle.parser_claims.proofs.Claimed as claimed
use Rattle.tokenizer.specs.declared.state.Step.{Step}

up-to : {d : List ℕ} {s u : State} {l : List Answer} (n : ℕ) → Parses d s l u → length l ≤ n → up_to d n s ≡ l
unfolding up_to is_end
up-to zero (ends e) h = refl
up-to (suc n) (ends e) h = rw e
up-to zero (says e f r) h = absurd (omega arith)
up-to (suc n) (says e f r) h = rw (e, f, up-to n r (omega arith))

stands : (d : List ℕ) {s : State} {l : List Answer} → Comes d s l (2 * length d) → (rest d s ≡ l) × Stands d s
stands d c =
    let e = up-to (2 * length d) c.parses c.bound in
    (e, record { last = c.last; parses = rw e c.parses; fits = rw e c.fits; bound = rw e c.bound })

pub fresh-stands : FreshStands
fresh-stands d h =
    let e = claimed.ends d h in
    stands d (record { last = e.last; parses = e.parses; fits = claimed.fit d h; bound = e.bound })

pub rest_end : RestEnd
rest_end d s e = up-to (2 * length d) (ends (is-end (step_of d s).answer e)) (omega arith)

-- an answer that is not End, and what comes after it
record Onward (d : List ℕ) (x : Step State) (l : List Answer) : Type 0 where
  after : List Answer
  left : l ≡ x.answer ∷ after
  fits : Fits d x.answer
  next : Comes d x.state after (2 * length d)

onward : (d : List ℕ) {s u : State} {l : List Answer} → Parses d s l u → All (Fits d) l → length l ≤ 2 * length d
    → is_end (step_of d s).answer ≡ false → Onward d (step_of d s) l
unfolding is_end
onward d (ends e) f h z = let q = ap is_end e in absurd cc
onward d {u = u} (says {l = l} e i r) f h z =
    rw e (record { after = l; left = refl; fits = f.0; next = record { last = u; parses = r; fits = f.1; bound = omega arith } })

step : (d : List ℕ) (s : State) → Stands d s → is_end (step_of d s).answer ≡ false → Onward d (step_of d s) (rest d s)
step d s c z = onward d c.parses c.fits c.bound z

pub rest-step : RestStep
rest-step d s c z = let o = step d s c z in o.left ∙ ap (◌∷◌ (step_of d s).answer) (sym (stands d o.next).0)

pub step_fits : StepFits
step_fits d s c z = (step d s c z).fits

pub step-stands : StepStands
step-stands d s c z = (stands d (step d s c z).next).1
