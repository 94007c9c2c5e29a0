-- What each answer of a sound state's step vouches for: End, that only blanks are left and no section is open; a token, that its parts are texts of
-- the document; a refusal, that it is one of the rules' own, 1, 2 or 3.
use Rattle.std.specs.Prelude.{Some, None, Ok, Err, Option}
use Rattle.text.specs.Numbers.{number_of}
use Rattle.tokenizer.specs.Token.{Answer}
use Prim.Native.Nat.{ℕ, ◌+◌, ◌≤◌}
use mathlib.Core.Path.{◌≡◌, sym, ap, ◌∙◌}
use mathlib.Core.List.{List, [], ◌∷◌}
use mathlib.Core.Bool.{false}
use native.Mathlib.Omega.{arith}
use lib.ListN.{length, take, drop, length-drop}
use lib.Seq.{drop-drop}
use Rattle.utf8.specs.Utf8.{utf8}
use Rattle.text.specs.Bytes.{line_end, shifted_by}
use Rattle.text.specs.Trimming.{dropped, trimmed}
use Rattle.text.specs.declared.bytes.Part.{Part}
use Rattle.text.specs.declared.trimming.Dropped.{Dropped}
use Rattle.text.specs.declared.trimming.Dropped.TheVariants.{Blanks, BlanksAndBreaks}
use Rattle.text.proofs.Cases.{on-cond}
use Rattle.tokenizer_scans.specs.Scans.{blanks, plain_end, text_end, checked_of, multiline_end, lines_of}
use Rattle.tokenizer_rules.specs.Plan.{said, plan_newline, plan_comment, plan_item, plan_key, plan_plain, plan_multiline, plan_outdent}
use Rattle.tokenizer.specs.Step.{bytes_of, size_of}
use Rattle.tokenizer_rules.specs.declared.plan.Says.{Says}
use Rattle.tokenizer_rules.specs.declared.plan.Says.TheVariants as says
use Rattle.tokenizer.specs.declared.state.State.{State}
use Rattle.tokenizer.proofs.Bounds.{rest-size}
use Rattle.tokenizer_scans.proofs.Quotes.{hint_le}
use Rattle.tokenizer_claims.specs.Claims.{Text, TokenFits}
use Rattle.tokenizer_claims.proofs.Texts.{text-trimmed, text-take, text-drop, indentation-text, blanks-le}
use Rattle.tokenizer_claims.proofs.Sound.{rest_of, indent_at, plan_of, answer_at, StepCases, step-cases, Sound, indent-sound}

abbrev pub Vouched : List ℕ → State → Answer → Type 0
Vouched d s None = (blanks (rest_of d s) ≡ length (rest_of d s)) × (s.depth ≡ 0)
Vouched d s (Some (Ok t)) = TokenFits d t
Vouched d s (Some (Err e)) = (1 ≤ number_of e.refusal) × (number_of e.refusal ≤ 3)

-- nothing but the indentation is left
blanks-left : (h : Option Part) (r : List ℕ) → drop (size_of h r) r ≡ [] → blanks r ≡ length r
blanks-left None r q = let l : length (drop (blanks r) r) ≡ 0 = ap length q in omega (arith, length-drop (blanks r) r, blanks-le r)
blanks-left (Some p) r q = let l : length r ≡ 0 = ap length q in omega (arith, blanks-le r)

module _ (d : List ℕ) (s : State) (o : Sound d s) where
  -- a text from the front of t, said as f does
  said-vouched : (f : Part → Says) (which : Dropped) (n : ℕ) (t : List ℕ) → ((p : Part) → Text t p → Vouched d s (answer_at d s (f p)))
      → Vouched d s (answer_at d s (said f (checked_of which (take n t))))
  unfolding checked_of
  said-vouched f which n t h =
      on-cond (λ x. Vouched d s (answer_at d s (said f x))) (utf8 (take n t))
      (λ e. h (trimmed (dropped which) (take n t)) (text-take n t _ (text-trimmed which (take n t) e)))
      (λ e. omega arith)

  -- a text n bytes after the place
  text_at : (n : ℕ) (t : List ℕ) (p : Part) → n ≤ length (rest_of d s) → drop n (rest_of d s) ≡ t → Text t p
      → Text d (shifted_by s.place (shifted_by n p))
  text_at n t p h q x = text-drop s.place d (shifted_by n p) o.place (text-drop n (rest_of d s) p h (rw q x))

  vouches : StepCases d s (λ p. Vouched d s (answer_at d s p.says))
  unfolding plan_newline plan_comment plan_item plan_key plan_plain plan_multiline plan_outdent lines_of
  vouches = record {
    ends = λ q n. (blanks-left s.held (rest_of d s) q, omega arith);
    closes = λ q n. tt;
    line = λ b r q.
        let k = size_of s.held (rest_of d s) in
        let l = rest-size k (rest_of d s) b r q in
        let after : (j : ℕ) → drop (k + j) (rest_of d s) ≡ drop j (b ∷ r) = λ j. sym (drop-drop j k (rest_of d s)) ∙ ap (drop j) q in
        record {
          newline = λ e. tt;
          comment = λ e c. said-vouched _ Blanks (line_end r) r (λ p. text_at (k + 1) r p (omega arith) (after 1));
          multiline = λ c i e u.
              said-vouched says.MultilineValue BlanksAndBreaks (multiline_end (bytes_of d (indent_at d s)) false (rest_of d s)) (rest_of d s)
              (λ p x. (indentation-text d (indent_at d s) (indent-sound d s o), text-drop s.place d p o.place x));
          opens = λ c i e u n. tt;
          full = λ c i e u n. omega arith;
          outdent = λ c i e. tt;
          item = λ c e v t. tt;
          key = λ c e v t. said-vouched _ Blanks (text_end 61 (b ∷ r)) (b ∷ r) (λ p. text_at k (b ∷ r) p (omega arith) q);
          quotes = λ c e v h t. omega arith;
          hint = λ c e v h t.
              let w = drop 3 (b ∷ r) in
              said-vouched _ Blanks (plain_end 59 w) w (λ p. text_at (k + 3) w p (omega (arith, hint_le (b ∷ r) h)) (after 3));
          plain = λ c e v h. said-vouched _ Blanks (text_end 59 (b ∷ r)) (b ∷ r) (λ p. text_at k (b ∷ r) p (omega arith) q);
        };
  }

pub plan-vouches : (d : List ℕ) (s : State) → Sound d s → Vouched d s (answer_at d s (plan_of d s).says)
plan-vouches d s o = step-cases d s _ (vouches d s o)
