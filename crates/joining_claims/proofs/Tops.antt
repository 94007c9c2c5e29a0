-- The sort of the top level: what the parser keeps for it at the bottom of its sections is the sort of the first top-level entry
-- among its answers.
use Rattle.std.specs.Prelude.{Option, Some, None, Ok}
use Rattle.tokenizer.specs.Token.{Answer}
use Prim.Native.Nat.{ℕ, suc, ◌+◌, ◌<◌}
use mathlib.Core.Path.{◌≡◌, refl, sym, ap, subst, ◌∙◌}
use mathlib.Core.List.{List, [], ◌∷◌, ◌++◌}
use mathlib.Core.Bool.{false, cond}
use native.Mathlib.Omega.{arith}
use lib.Dec.{eqb}
use lib.ListN.{length, length-append}
use borrow.Author.Tests.{eq-eqb, ne_eqb}
use Rattle.text.proofs.Cases.{clash}
use Rattle.tokenizer.specs.declared.token.Token.{Token}
use Rattle.tokenizer.specs.declared.token.Token.TheVariants.{Outdent, NoValue}
use Rattle.parser_rules.specs.Ruling.{clashes}
use Rattle.parser.specs.Step.{unsorted, no_sort}
use Rattle.parser.specs.Lists.{innermost, stack_after, top_entries, entry_sort, sort_of, top_sort}
use Rattle.parser_rules.specs.declared.ruling.Sort.{Sort}
use Rattle.parser_rules.specs.declared.ruling.Sort.TheVariants.{Map, List as Listed}
use Rattle.parser_rules.specs.declared.ruling.Awaited.{Awaited}
use Rattle.parser_rules.specs.declared.ruling.Change.{Change}
use Rattle.parser_rules.specs.declared.ruling.Change.TheVariants.{Keep, Fix, Close}
use Rattle.parser_rules.specs.declared.ruling.Section.{Section}
use Rattle.parser_claims.proofs.Given.{
  Plain,
  newline,
  comment,
  value,
  hint,
  multiline,
  Entry,
  item,
  key,
  Moves,
  passes,
  enters,
  opens,
  closes,
}
use Rattle.joining_claims.specs.TopSort.{OfSort}

-- the record of the top level, which no line opens
abbrev pub level : Option Sort → Section
level s = record { sort = s; line = 0 }

-- what is said, a NoValue or a token that is given on, and what it does to the sections
pub data Turn (sections : List Section) : Answer → Change → Type 0 where
  misses : {l : ℕ} → Turn sections (Some (Ok (NoValue l))) Keep
  moves : {w : Awaited} {x y : Token} {a : Awaited} {c : Change} → Moves w (innermost sections) x y a c
      → Turn sections (Some (Ok y)) c

-- the answers of a list, each with the sections after it, of which one is always left
pub data Runs : List Section → List Answer → List Section → Type 0 where
  done : {sections : List Section} → Runs sections [] sections
  more : {sections after : List Section} {a : Answer} {c : Change} {l : List Answer} → Turn sections a c
      → 0 < length (stack_after c sections) → Runs (stack_after c sections) l after → Runs sections (a ∷ l) after

pub runs_append : {a b c : List Section} {l m : List Answer} → Runs a l b → Runs b m c → Runs a (l ++ m) c
runs_append done s = s
runs_append (more t h r) s = more t h (runs_append r s)

-- the first sort that is fixed stays
abbrev chosen : Option Sort → Option Sort → Option Sort
chosen None s = s
chosen (Some r) s = Some r

chosen_none : (s : Option Sort) → chosen s None ≡ s
chosen_none None = refl
chosen_none (Some r) = refl

-- an entry that does not clash has the sort of its section from then on
chosen-fixed : (j : Option Sort) (s : Sort) → clashes j s ≡ false → chosen j (Some s) ≡ Some s
chosen-fixed None s e = refl
chosen-fixed (Some Map) Map e = refl
chosen-fixed (Some Map) Listed e = absurd (clash e)
chosen-fixed (Some Listed) Map e = absurd (clash e)
chosen-fixed (Some Listed) Listed e = refl

-- Which answers are top-level entries

pub entry-sort : {t : Token} {m : ℕ} {s : Sort} → Entry t m s → entry_sort t ≡ Some s
entry-sort item = refl
entry-sort key = refl

entry_top : {t : Token} {m : ℕ} {s : Sort} → Entry t m s → (i o : ℕ) (l : List Answer)
    → top_entries i o (Some (Ok t) ∷ l) ≡ cond (eqb i o) (t ∷ top_entries i o l) (top_entries i o l)
unfolding top_entries
entry_top item i o l = refl
entry_top key i o l = refl

plain-none : {t : Token} → Plain t → (i o : ℕ) (l : List Answer) → top_entries i o (Some (Ok t) ∷ l) ≡ top_entries i o l
unfolding top_entries
plain-none newline i o l = refl
plain-none comment i o l = refl
plain-none value i o l = refl
plain-none hint i o l = refl
plain-none multiline i o l = refl

-- The sections after i Indents and o Outdents: the top level has the sort s, and one more is open for each Indent left.
record Top (sections : List Section) (i o : ℕ) (s : Option Sort) : Type 0 where
  inner : List Section
  split : sections ≡ inner ++ level s ∷ []
  count : i ≡ o + length inner

-- what a turn leaves, and what it takes from the entries still to come
record Left (sections : List Section) (i o : ℕ) (s : Option Sort) (a : Answer) (l : List Answer) : Type 0 where
  ins : ℕ
  outs : ℕ
  sort : Option Sort
  top : Top sections ins outs sort
  rest : chosen s (sort_of (top_entries i o (a ∷ l))) ≡ chosen sort (sort_of (top_entries ins outs l))
  each : (z : Option Sort) → z ≡ chosen sort (sort_of (top_entries ins outs l)) → OfSort z (top_entries ins outs l) → OfSort z (top_entries i o (a ∷ l))

after_none : {sections : List Section} {i o : ℕ} {s : Option Sort} (a : Answer) (l : List Answer) → top_entries i o (a ∷ l) ≡ top_entries i o l
    → Top sections i o s → Left sections i o s a l
after_none {i = i} {o = o} {s = s} a l q t = record { ins = i; outs = o; sort = s; top = t; rest = rw q; each = λ z p e. rw q e }

after-close : (inner : List Section) (s : Option Sort) (i o m k : ℕ) (l : List Answer) → i ≡ o + length inner
    → 0 < length (stack_after Close (inner ++ level s ∷ []))
    → Left (stack_after Close (inner ++ level s ∷ [])) i o s (Some (Ok (Outdent m k))) l
unfolding top_entries
after-close [] s i o m k l e h = absurd (omega arith)
after-close (x ∷ inner) s i o m k l e h = record {
  ins = i;
  outs = suc o;
  sort = s;
  top = record { inner = inner; split = refl; count = omega arith };
  rest = refl;
  each = λ z q h. h;
}

module _ {t : Token} {m : ℕ} {r : Sort} (f : Entry t m r) where
  after-fix : (inner : List Section) (s : Option Sort) (j : Section) (i o : ℕ) (l : List Answer) → innermost (inner ++ level s ∷ []) ≡ Some j
      → clashes j.sort r ≡ false → i ≡ o + length inner → Left (stack_after (Fix r) (inner ++ level s ∷ [])) i o s (Some (Ok t)) l
  after-fix [] s j i o l q e c =
      let same : s ≡ j.sort = cc in
      record {
        ins = i;
        outs = o;
        sort = Some r;
        top = record { inner = []; split = refl; count = c };
        rest = rw (entry_top f i o l, eq-eqb i o (omega arith), entry-sort f) (chosen-fixed s r (rw same e));
        each = λ z q h. rw (entry_top f i o l, eq-eqb i o (omega arith)) (entry-sort f ∙ sym q, h);
      }
  after-fix (x ∷ inner) s j i o l q e c = record {
    ins = i;
    outs = o;
    sort = s;
    top = record { inner = record { sort = Some r; line = x.line } ∷ inner; split = refl; count = c };
    rest = rw (entry_top f i o l, ne_eqb i o (λ z. omega arith));
    each = λ z q h. rw (entry_top f i o l, ne_eqb i o (λ z. omega arith)) h;
  }

turn-top : {sections : List Section} {i o : ℕ} {s : Option Sort} {a : Answer} {c : Change} → Turn sections a c → Top sections i o s
    → 0 < length (stack_after c sections) → (l : List Answer) → Left (stack_after c sections) i o s a l
unfolding top_entries
turn-top {a = a} misses t h l = after_none a l refl t
turn-top {i = i} {o = o} {a = a} (moves (passes p f)) t h l = after_none a l (plain-none p i o l) t
turn-top {i = i} {o = o} {s = s} (moves (opens {n = n} q)) t h l = record {
  ins = suc i;
  outs = o;
  sort = s;
  top = record { inner = unsorted n ∷ t.inner; split = ap (◌∷◌ (unsorted n)) t.split; count = omega (arith, t.count) };
  rest = refl;
  each = λ z q e. e;
}
turn-top {i = i} {o = o} {s = s} (moves (closes {l = m} {j = k} q)) t h l =
    rw t.split (after-close t.inner s i o m k.line l t.count (rw t.split at h))
turn-top {i = i} {o = o} {s = s} (moves (enters {j = j} f q e)) t h l =
    rw t.split (after-fix f t.inner s j i o l (rw t.split at q) e t.count)

-- along a list
runs-top : {sections after : List Section} {l : List Answer} → Runs sections l after → (i o : ℕ) (s : Option Sort) → Top sections i o s
    → (j k : ℕ) × Top after j k (chosen s (sort_of (top_entries i o l)))
unfolding top_entries
runs-top done i o s t = (i, o, rw (chosen_none s) t)
runs-top (more {l = l} u h r) i o s t = let f = turn-top u t h l in rw f.rest (runs-top r f.ins f.outs f.sort f.top)

-- and all entries on the way are of the sort that is chosen
runs-sorts : {sections after : List Section} {l : List Answer} → Runs sections l after → (i o : ℕ) (s : Option Sort) → Top sections i o s
    → OfSort (chosen s (sort_of (top_entries i o l))) (top_entries i o l)
unfolding top_entries
runs-sorts done i o s t = tt
runs-sorts (more {l = l} u h r) i o s t =
    let f = turn-top u t h l in
    let on = runs-sorts r f.ins f.outs f.sort f.top in
    f.each _ f.rest (subst (λ z. OfSort z (top_entries f.ins f.outs l)) (sym f.rest) on)

-- from the fresh top level on
fresh-top : Top (no_sort ∷ []) 0 0 None
fresh-top = record { inner = []; split = refl; count = omega arith }

pub top-sorts : {l : List Answer} {after : List Section} → Runs (no_sort ∷ []) l after → OfSort (top_sort l) (top_entries 0 0 l)
top-sorts r = runs-sorts r 0 0 None fresh-top

-- the one section that is left at the end has the sort of the first top-level entry
pub top-sort : {l : List Answer} {after : List Section} → Runs (no_sort ∷ []) l after → length after ≡ 1 → after ≡ level (top_sort l) ∷ []
top-sort r e = let t = (runs-top r 0 0 None fresh-top).2 in only t.inner t.split e
  where
    only : {after : List Section} {s : Option Sort} (inner : List Section) → after ≡ inner ++ level s ∷ [] → length after ≡ 1 → after ≡ level s ∷ []
    only [] q e = q
    only {s = s} (x ∷ inner) q e = absurd (omega (arith, ap length q, length-append inner (level s ∷ [])))
