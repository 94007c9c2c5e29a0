-- `parse` takes the branches of `parse_batch_of` (proofs/Batching).
use Prim.Native.Nat.{ℕ, ◌≤◌}
use mathlib.Core.Path.{◌≡◌, refl, sym, ap, ◌∙◌}
use mathlib.Core.List.{List}
use mathlib.Core.Bool.{Bool, true, cond, ◌&&◌}
use native.Mathlib.Omega.{arith}
use lib.Dec.{ltb}
use lib.ListN.{length, replicate}
use lib.Seq.{take_all}
use Rattle.text.proofs.Cases.{and_left, and_right}
use Rattle.tokenizer.specs.Step.{fit}
use Rattle.batches.proofs.Branching.{over, promised}
use Rattle.parser_words.specs.ParserWords.{parser_in, parser_readable}
use Rattle.batches.specs.Batch.{parse_batch_of}
use Rattle.batches.proofs.Batching.{unread, starts-unfit, none-starts, parses-done}
use Rattle.batches.proofs.parse_batch.parse.Goals as goal

pub returns-then-doc-gt-MAX_DOCUMENT : goal.returns-then-doc-gt-MAX_DOCUMENT
unfolding parse_batch_of
returns-then-doc-gt-MAX_DOCUMENT c =
    let all = promised (over _ _ _ _ _ c.if-doc-gt-MAX_DOCUMENT.true) in
    record { value = all.0; state_after = all.1.0; rows_after = all.1.1 }

pub returns-then-not-restore_parser : goal.returns-then-not-restore_parser
returns-then-not-restore_parser c =
    let all =
    unread c.args.doc.now c.args.state.now c.args.rows.now c.args.state.now c.args.state.now c.if-doc-gt-MAX_DOCUMENT.false
    (sym c.restore_parser.ensures.value ∙ c.if-not-restore_parser.true) in
    record { value = all.0; state_after = all.1.0; rows_after = all.1.1 }

-- where the state was put
record Put (n : ℕ) (state v w : List ℕ) : Type 0 where
  read : parser_readable state ≡ true
  fits : fit n (parser_in state).tokenizer ≡ true
  kept : v ≡ w

put : {b : Bool} {v w : List ℕ} {n : ℕ} (state z : List ℕ) → b ≡ (parser_readable state && fit n (parser_in state).tokenizer) → v ≡ cond b w z
    → b ≡ true → Put n state v w
put {w = w} state z value words e =
    let both = sym value ∙ e in
    record {
      read = and_left (parser_readable state) _ both;
      fits = and_right (parser_readable state) _ both;
      kept = words ∙ ap (λ x. cond x w z) e;
    }

pub returns-then-starts_unfit : goal.returns-then-starts_unfit
returns-then-starts_unfit c =
    let p = put c.args.state.now _ c.restore_parser.ensures.value c.restore_parser.ensures.dst_after c.if-not-restore_parser.false in
    let u = rw p.kept at c.starts_unfit.ensures in
    let all =
    starts-unfit c.args.doc.now c.args.state.now c.args.rows.now (replicate 278 0) (replicate 278 0)
    c.if-doc-gt-MAX_DOCUMENT.false (omega arith) p.read p.fits refl
    (and_right (ltb (length c.args.rows.now) 7) _ (sym u ∙ c.if-starts_unfit.true)) in
    record { value = all.0; state_after = all.1.0; rows_after = all.1.1 }

pub returns-then-t-eq : goal.returns-then-t-eq
returns-then-t-eq c =
    let p = put c.args.state.now _ c.restore_parser.ensures.value c.restore_parser.ensures.dst_after c.if-not-restore_parser.false in
    let t = c.take_rows-t.ensures in
    let n = rw p.kept at t.rows_value in
    let m = rw p.kept at t.last_value in
    let all =
    none-starts c.args.doc.now c.args.state.now c.args.rows.now (replicate 278 0) (replicate 278 0)
    c.if-doc-gt-MAX_DOCUMENT.false (omega arith) p.read p.fits (rw (n, c.eq.ensures, m) at c.if-t-eq.true) (rw p.kept at t.rows_after) in
    record { value = all.0; state_after = all.1.0; rows_after = all.1.1 }

pub returns : goal.returns
returns c =
    let p = put c.args.state.now _ c.restore_parser.ensures.value c.restore_parser.ensures.dst_after c.if-not-restore_parser.false in
    let u = rw p.kept at c.starts_unfit.ensures in
    let long : length c.take_rows-t.new.w ≤ 278 = omega (arith, c.take_rows-t.array_long) in
    let t = c.take_rows-t.ensures in
    let n = rw p.kept at t.rows_value in
    let m = rw p.kept at t.last_value in
    let all =
    parses-done c.args.doc.now c.args.state.now c.args.rows.now _ _ c.if-doc-gt-MAX_DOCUMENT.false (omega arith) p.read p.fits
    (sym u ∙ c.if-starts_unfit.false) (rw (n, c.eq.ensures, m) at c.if-t-eq.false)
    n (rw p.kept at t.w_after) (rw p.kept at t.rows_after) (rw (take_all _ _ long) c.paste.ensures) in
    record { value = all.0; state_after = all.1.0; rows_after = all.1.1 }
