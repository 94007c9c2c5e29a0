-- The one walk through rules 2 to 6: what holds of every leaf of the plan, each with the tests that lead to it, holds of the
-- plan. Whatever is shown of all plans is shown by `plan-cases`.
use Prim.Native.Nat.{ℕ, ◌+◌, ◌≤◌, ◌<◌}
use mathlib.Core.Path.{◌≡◌, refl, sym, ◌∙◌}
use mathlib.Core.List.{List, [], ◌∷◌}
use mathlib.Core.Bool.{true, false, cond}
use lib.ListN.{take, drop}
use lib.Dec.{eqb, ltb}
use borrow.Author.Tests.{ltb-true, ltb-false}
use Rattle.text.specs.Bytes.{is_break, line_end, starts_with, shifted_by}
use Rattle.text.specs.declared.refusals.Refusal.TheVariants.{CharactersAfterQuotes, TooManyOpen}
use Rattle.text.specs.declared.trimming.Dropped.TheVariants.{Blanks}
use Rattle.text.proofs.Cases.{on-cond}
use Rattle.tokenizer_scans.specs.Scans.{relation_of, plain_end, checked_of, begins_hint}
use Rattle.tokenizer_rules.specs.Plan.{keeps, said, with_value, plan_newline, plan_end, begins_comment, plan_comment, plan_item, plan_key, plan_plain, hint_marks, plan_hint, plan_value, plan_entry, plan_multiline, plan_open, plan_outdent, on_relation, cleared, plan_indented, plan_on, plan_at}
use Rattle.tokenizer_scans.specs.declared.readers.Relation.{Relation}
use Rattle.tokenizer_scans.specs.declared.readers.Relation.TheVariants.{Equal, Deeper, Other}
use Rattle.tokenizer_rules.specs.declared.plan.Marks.{Marks}
use Rattle.tokenizer_rules.specs.declared.plan.Says.TheVariants.{End, Indent, Outdent, MultilineHint, Refused}
use Rattle.tokenizer_rules.specs.declared.plan.Change.TheVariants.{Open, Close}
use Rattle.tokenizer_rules.specs.declared.plan.Plan.{Plan}

-- leaves that the rules write out
abbrev pub plan_close : Marks → Plan
plan_close m = record { says = Outdent; pass = 0; lines = 0; marks = m; change = Close }

abbrev pub plan_indent : Marks → ℕ → Plan
plan_indent m k = record { says = Indent; pass = k; lines = 0; marks = m; change = Open }

abbrev pub plan_hinted : Marks → ℕ → List ℕ → Plan
plan_hinted m k r =
    let t = checked_of Blanks (take (plain_end 59 r) r) in
    keeps (said (λ p. MultilineHint (shifted_by (k + 3) p)) t) (k + 3 + plain_end 59 r) (hint_marks t m)

-- the first byte begins neither a break nor a comment
pub record Content (m : Marks) (b : ℕ) : Type 0 where
  pub no-break : is_break b ≡ false
  pub no-comment : begins_comment m b ≡ false

-- the marks with which rule 6 is reached: in a line, or at the start of one whose indentation is the innermost one
pub data Entry (m : Marks) (inner indent : List ℕ) : Marks → Type 0 where
  later : m.indent ≡ false → Entry m inner indent m
  first : m.indent ≡ true → relation_of inner indent ≡ Equal → Entry m inner indent (cleared m)

-- What is to be shown of each leaf where b is the first byte after the indentation, and r stands after it.
pub record Leaves (m : Marks) (depth : ℕ) (inner indent rest : List ℕ) (k b : ℕ) (r : List ℕ) (G : Plan → Type 0) : Type 0 where
  pub newline : is_break b ≡ true → G (plan_newline m k (b ∷ r))
  pub comment : is_break b ≡ false → begins_comment m b ≡ true → G (plan_comment m k r)
  pub multiline : Content m b → m.indent ≡ true → relation_of inner indent ≡ Deeper → m.multiline ≡ true
      → G (plan_multiline (cleared m) indent rest)
  pub opens : Content m b → m.indent ≡ true → relation_of inner indent ≡ Deeper → m.multiline ≡ false → depth < 64
      → G (plan_indent (cleared m) k)
  pub full : Content m b → m.indent ≡ true → relation_of inner indent ≡ Deeper → m.multiline ≡ false → 64 ≤ depth
      → G (keeps (Refused TooManyOpen) (k + line_end (b ∷ r)) (cleared m))
  pub outdent : Content m b → m.indent ≡ true → relation_of inner indent ≡ Other → G (plan_outdent (cleared m) k)
  pub item : {n : Marks} → Content m b → Entry m inner indent n → m.value ≡ false → eqb b 61 ≡ true → G (plan_item n k)
  pub key : {n : Marks} → Content m b → Entry m inner indent n → m.value ≡ false → eqb b 61 ≡ false → G (plan_key n k (b ∷ r))
  pub quotes : {n : Marks} → Content m b → Entry m inner indent n → m.value ≡ true → begins_hint (b ∷ r) ≡ true
      → starts_with (34 ∷ []) (drop 3 (b ∷ r)) ≡ true → G (keeps (Refused CharactersAfterQuotes) 0 (with_value false n))
  pub hint : {n : Marks} → Content m b → Entry m inner indent n → m.value ≡ true → begins_hint (b ∷ r) ≡ true
      → starts_with (34 ∷ []) (drop 3 (b ∷ r)) ≡ false → G (plan_hinted (with_value false n) k (drop 3 (b ∷ r)))
  pub plain : {n : Marks} → Content m b → Entry m inner indent n → m.value ≡ true → begins_hint (b ∷ r) ≡ false
      → G (plan_plain (with_value false n) k (b ∷ r))

-- w is what stands after the indentation
pub record Cases (m : Marks) (depth : ℕ) (inner indent rest : List ℕ) (k : ℕ) (w : List ℕ) (G : Plan → Type 0) : Type 0 where
  pub ends : w ≡ [] → depth ≤ 0 → G (keeps End 0 m)
  pub closes : w ≡ [] → 0 < depth → G (plan_close m)
  pub line : (b : ℕ) (r : List ℕ) → w ≡ b ∷ r → Leaves m depth inner indent rest k b r G

entry_value : {m n : Marks} {inner indent : List ℕ} → Entry m inner indent n → n.value ≡ m.value
entry_value (later e) = refl
entry_value (first e q) = refl

on-relation : (G : Plan → Type 0) (r : Relation) {x y z : Plan} → (r ≡ Equal → G x) → (r ≡ Deeper → G y) → (r ≡ Other → G z)
    → G (on_relation r x y z)
on-relation G Equal f g h = f refl
on-relation G Deeper f g h = g refl
on-relation G Other f g h = h refl

module _ (m : Marks) (depth : ℕ) (inner indent rest : List ℕ) (k : ℕ) (G : Plan → Type 0) where
  module _ (b : ℕ) (r : List ℕ) (l : Leaves m depth inner indent rest k b r G) where
    -- rule 6
    entry-cases : {n : Marks} → Content m b → Entry m inner indent n → G (plan_entry n k b (b ∷ r))
    unfolding plan_entry plan_value plan_hint
    entry-cases {n} c e = on-cond G n.value (λ t. value (sym (entry_value e) ∙ t)) (λ t. entry (sym (entry_value e) ∙ t))
      where
        value : m.value ≡ true → G (plan_value (with_value false n) k (b ∷ r))
        value v =
            on-cond G (begins_hint (b ∷ r))
            (λ h. on-cond G (starts_with (34 ∷ []) (drop 3 (b ∷ r))) (l.quotes c e v h) (l.hint c e v h))
            (l.plain c e v)

        entry : m.value ≡ false → G (cond (eqb b 61) (plan_item n k) (plan_key n k (b ∷ r)))
        entry v = on-cond G (eqb b 61) (l.item c e v) (l.key c e v)

    -- rule 5
    indented-cases : Content m b → m.indent ≡ true → G (plan_indented m depth inner indent rest k b (b ∷ r))
    unfolding plan_indented plan_open
    indented-cases c i =
        on-relation G (relation_of inner indent)
        (λ q. entry-cases c (first i q))
        (λ q. on-cond G m.multiline (l.multiline c i q) (opens q))
        (l.outdent c i)
      where
        opens : relation_of inner indent ≡ Deeper → m.multiline ≡ false → G (plan_open (cleared m) depth k (b ∷ r))
        opens q u =
            on-cond G (ltb depth 64) (λ t. l.opens c i q u (ltb-true depth 64 t)) (λ t. l.full c i q u (ltb-false depth 64 t))

    line-cases : G (plan_on m depth inner indent rest k (b ∷ r))
    unfolding plan_on
    line-cases =
        on-cond G (is_break b) l.newline
        (λ n. on-cond G (begins_comment m b) (l.comment n) (λ s. content (record { no-break = n; no-comment = s })))
      where
        content : Content m b → G (cond m.indent (plan_indented m depth inner indent rest k b (b ∷ r)) (plan_entry m k b (b ∷ r)))
        content c = on-cond G m.indent (indented-cases c) (λ i. entry-cases c (later i))

  on-cases : (w : List ℕ) → Cases m depth inner indent rest k w G → G (plan_on m depth inner indent rest k w)
  unfolding plan_on plan_end
  on-cases [] c = on-cond G (ltb 0 depth) (λ t. c.closes refl (ltb-true 0 depth t)) (λ t. c.ends refl (ltb-false 0 depth t))
  on-cases (b ∷ r) c = line-cases b r (c.line b r refl)

  pub plan-cases : Cases m depth inner indent rest k (drop k rest) G → G (plan_at m depth inner indent rest k)
  unfolding plan_at
  plan-cases c = on-cases (drop k rest) c
