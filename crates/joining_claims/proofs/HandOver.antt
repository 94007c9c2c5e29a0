-- What S's first line does at P's end. Its indentation is empty, so it closes the open sections one by one, as P's end does in
-- P's own reading; when none is open it begins an entry, as it does in S's own reading. A multiline mark that P left makes no
-- difference: no multiline value begins at an empty indentation, and the line is no comment.
use Rattle.std.specs.Prelude.{Some, Ok}
use Prim.Native.Nat.{ℕ, zero, suc, ◌+◌, ◌-◌, ◌<◌}
use mathlib.Core.Path.{◌≡◌, refl, sym, ap, ◌∙◌}
use mathlib.Core.List.{List, [], ◌∷◌, ◌++◌}
use mathlib.Core.Bool.{true, false, true≢false}
use native.Mathlib.Nat.{add-zero}
use native.Mathlib.Omega.{arith}
use lib.ListN.{length, drop, get_or, length-take, length-drop}
use lib.Seq.{drop-append_seam}
use Rattle.text.specs.Bytes.{shifted_by}
use Rattle.text.specs.Trimming.{dropped}
use Rattle.text.specs.declared.bytes.Part.{Part}
use Rattle.text.proofs.Cases.{on-cond}
use Rattle.tokenizer_scans.specs.Scans.{blanks, relation_of, breaks}
use Rattle.tokenizer_rules.specs.Plan.{plan_entry, plan_outdent, cleared, plan_indented, plan_on, plan_at}
use Rattle.tokenizer.specs.Step.{bytes_of, no_part, size_of, inner_of, plan_with, after_plan, step_with, step_rule, fresh}
use Rattle.tokenizer_rules.specs.declared.plan.Marks.{Marks}
use Rattle.tokenizer.specs.declared.token.Token.TheVariants as token
use Rattle.tokenizer.specs.declared.state.State.{State}
use Rattle.tokenizer_claims.proofs.Texts.{Indentation}
use Rattle.tokenizer_claims.proofs.Sound.{rest_of, indent_at, Sound}
use Rattle.joining_claims.proofs.Values.{Top}
use Rattle.joining_claims.proofs.Sections.{Pairs}
use Rattle.joining_claims.proofs.Course.{Wide, Course}
use Rattle.joining_claims.proofs.Higher.{Above, HigherStep, bytes-raised, with-raised}

-- The plan of a line that begins with s, its indentation being empty

module _ (s : ℕ) (t : List ℕ) (o : Top s) where
  pub top-blanks : blanks (s ∷ t) ≡ 0
  unfolding blanks dropped
  top-blanks = rw o.no-blank

  at_top : (m : Marks) → m.indent ≡ true → (depth : ℕ) (inner : List ℕ)
      → plan_at m depth inner [] (s ∷ t) 0 ≡ plan_indented m depth inner [] (s ∷ t) 0 s (s ∷ t)
  unfolding plan_at plan_on
  at_top m e depth inner =
      rw (o.no-break, o.no-comment)
      (on-cond (λ c. c ≡ plan_indented m depth inner [] (s ∷ t) 0 s (s ∷ t)) m.indent (λ f. refl) (λ f. absurd (true≢false (sym e ∙ f))))

  -- a section is open
  closes : (m : Marks) → m.indent ≡ true → (depth : ℕ) (inner : List ℕ) → 0 < length inner
      → plan_at m depth inner [] (s ∷ t) 0 ≡ plan_outdent (cleared m) 0
  unfolding plan_indented relation_of
  closes m e depth [] w = absurd (omega arith)
  closes m e depth (a ∷ inner) w = at_top m e depth (a ∷ inner)

  -- none is
  pub begins : (m : Marks) → m.indent ≡ true → m.value ≡ false
      → plan_at m 0 [] [] (s ∷ t) 0 ≡ plan_entry (record { indent = false; value = false; multiline = false }) 0 s (s ∷ t)
  unfolding plan_indented relation_of
  begins m e v = at_top m e 0 [] ∙ ap (λ v. plan_entry (record { indent = false; value = v; multiline = false }) 0 s (s ∷ t)) v

-- the innermost open indentation has a byte
inner-wide : (d : List ℕ) (is : List Part) (n : ℕ) → 0 < n → Pairs Wide is is n → ((j : ℕ) → Indentation d (get_or is j no_part))
    → 0 < length (bytes_of d (inner_of is n))
inner-wide d is zero h w f = absurd (omega arith)
inner-wide d is (suc n) h w f =
    let i = get_or is n no_part in
    omega (arith, w n (omega arith), (f n).within.ends, length-take (i.end - i.start) (drop i.start d), length-drop i.start d)

-- The states at P's end: x of P's own reading, y of the reading of P then S, which finds an empty indentation there or holds one

-- y after an Outdent
abbrev pub after_closing : List ℕ → State → State
after_closing p y = after_plan y (shifted_by (length p) no_part) (plan_outdent (cleared y.marks) 0)

module _ (p : List ℕ) (s : ℕ) (t : List ℕ) where
  pub record Waits (x y : State) : Type 0 where
    pub place : y.place ≡ length p
    pub line : y.line ≡ breaks p + 1
    pub indents : y.indents ≡ x.indents
    pub depth : y.depth ≡ x.depth
    pub indent : y.marks.indent ≡ true
    pub value : y.marks.value ≡ false
    pub empty : indent_at (p ++ s ∷ t) y ≡ shifted_by (length p) no_part
    pub size : size_of y.held (rest_of (p ++ s ∷ t) y) ≡ 0

  module _ (o : Top s) (x y : State) (w : Waits x y) where
    rest-top : rest_of (p ++ s ∷ t) y ≡ s ∷ t
    rest-top = rw w.place (drop-append_seam p (s ∷ t))

    plan-top : (depth : ℕ) (inner : List ℕ) → y.depth ≡ depth → bytes_of (p ++ s ∷ t) (inner_of y.indents y.depth) ≡ inner
        → plan_with (p ++ s ∷ t) y (shifted_by (length p) no_part) 0 ≡ plan_at y.marks depth inner [] (s ∷ t) 0
    unfolding plan_with
    plan-top depth inner d i = rw (i, d, bytes-raised p (s ∷ t) no_part, rest-top)

    -- with no section open, S's first step
    plan-begins : y.depth ≡ 0 → plan_with (p ++ s ∷ t) y (shifted_by (length p) no_part) 0 ≡ plan_with (s ∷ t) fresh no_part 0
    unfolding plan_with fresh
    plan-begins d = plan-top 0 [] d (rw d) ∙ begins s t o y.marks w.indent w.value ∙ sym (begins s t o fresh.marks refl refl)

    above : Course p x → y.depth ≡ 0 → Above (breaks p) (length p) fresh y
    unfolding fresh
    above c d = record {
      place = w.place ∙ sym (add-zero (length p));
      line = w.line;
      depth = d;
      low-room = refl;
      room = ap length w.indents ∙ c.room;
      indents = λ j l. absurd (omega arith);
    }

    pub first_step : Course p x → y.depth ≡ 0 → HigherStep (breaks p) (length p) (step_rule (s ∷ t) fresh) (step_rule (p ++ s ∷ t) y)
    unfolding step_rule fresh
    first_step c d = rw (w.empty, w.size, top-blanks s t o) (with-raised p (s ∷ t) fresh y (above c d) no_part 0 (plan-begins d) (omega arith))

    -- with one open, an Outdent
    plan-closes : Course p x → Sound (p ++ s ∷ t) y → 0 < y.depth
        → plan_with (p ++ s ∷ t) y (shifted_by (length p) no_part) 0 ≡ plan_outdent (cleared y.marks) 0
    plan-closes c f d =
        let i = inner-wide (p ++ s ∷ t) y.indents y.depth d (rw (w.indents, w.depth) c.wide) f.indents in
        plan-top y.depth _ refl refl ∙ closes s t o y.marks w.indent y.depth _ i

    pub closing-step : Course p x → Sound (p ++ s ∷ t) y → 0 < y.depth
        → step_rule (p ++ s ∷ t) y ≡ record { answer = Some (Ok (token.Outdent y.line 0)); state = after_closing p y }
    unfolding step_rule step_with plan_outdent
    closing-step c f d = rw (w.empty, w.size, plan-closes c f d)
