-- `test_layers`: 1, 2, then the rundown, then the scratch.
use Rattle.std.proofs.Common.{Ok, Err}
use Prim.Native.Nat.{ℕ, ◌/◌}
use mathlib.Core.Path.{◌≡◌, refl, sym, ap, ◌∙◌}
use mathlib.Core.Bool.{true}
use mathlib.Core.List.{List, [], ◌∷◌}
use lib.ListN.{length}
use Rattle.answer.specs.declared.Refusal.{Refusal}
use Rattle.answer.specs.Tests.{unless, first_of}
use Rattle.answer.proofs.Laws.{joins, value_is, each_alone, each_at, each_of}
use Rattle.canvas.specs.Canvas.{is_canvas}
use Rattle.rundown.specs.Tests.{apart}
use Rattle.sources.specs.Table.{table_right, pool_right}
use Rattle.accept.specs.Tests.{answer, canvas_test, table_test, pool_test, rundown_test, blocks_test, scratch_test}
use Rattle.accept.specs.Private.{rundown_tests}
use Rattle.accept.proofs.Laws.Tests.{found, lost, found_as, lost_as, handed}
use Rattle.accept.proofs.test_layers.Goals as goal
use Rattle.accept.proofs.test_layers.Goals.{Else-not-pool_right, then-not-table_right-via-then-not-table_right, then-not-table_right-via-else-not-table_right+then-not-pool_right}

module _ (w h n : ℕ) (table : List ℕ) (m : ℕ) (buf : List ℕ) (la lb : ℕ) where
  -- where 1 and 2 pass, the answer is the rundown's, or the scratch's
  rest : is_canvas w h n ≡ true → table_right table ≡ true → pool_right table m ≡ true
      → answer w h n table m buf la lb ≡ first_of (rundown_tests w table buf) (scratch_test w h la lb (length buf / 512) buf)
  unfolding answer canvas_test table_test pool_test rundown_tests scratch_test unless
  rest e f g =
      let count = length buf / 512 in
      rw (e, f, g)
      (joins (rundown_test buf ∷ blocks_test w table count buf ∷ apart count buf ∷ []) (scratch_test w h la lb count buf ∷ []) count
      ∙ ap (first_of (rundown_tests w table buf)) (each_alone _ count))

  -- a count found is the number of blocks
  rest_count : (k : ℕ) → is_canvas w h n ≡ true → table_right table ≡ true → pool_right table m ≡ true → rundown_tests w table buf ≡ Ok k
      → answer w h n table m buf la lb ≡ scratch_test w h la lb k buf
  unfolding first_of rundown_tests
  rest_count k e f d g =
      let q : k ≡ length buf / 512 = value_is _ (length buf / 512) k g in
      rest e f d ∙ rw (g, q) refl

  rest_refused : (r : Refusal) → is_canvas w h n ≡ true → table_right table ≡ true → pool_right table m ≡ true → rundown_tests w table buf ≡ Err r
      → answer w h n table m buf la lb ≡ Err r
  unfolding first_of
  rest_refused r e f d g = rest e f d ∙ rw g refl

-- where the scratch suffices for all, their count is told
all_suffice : (w h la lb count m : ℕ) (buf : List ℕ) → scratch_test w h la lb count buf ≡ Ok m → scratch_test w h la lb count buf ≡ Ok count
unfolding scratch_test
all_suffice w h la lb count m buf e = each_of _ count (each_at _ count m e)

pub returns-then-not-is_canvas : goal.returns-then-not-is_canvas
unfolding answer canvas_test unless
returns-then-not-is_canvas c = ap Err c.at.ensures ∙ lost _ _ _ (rw (sym c.is_canvas.ensures ∙ c.if-not-is_canvas.true) refl)

pub returns-then-not-table_right : goal.returns-then-not-table_right
unfolding answer canvas_test table_test pool_test unless
returns-then-not-table_right c =
    let e = sym c.is_canvas.ensures ∙ c.if-not-is_canvas.false in
    ap Err c.at-then-not-table_right.ensures
    ∙ lost _ _ _ (elim c.then-not-table_right.branch [
      | then-not-table_right-via-then-not-table_right w ↦ rw (e, sym c.table_right.ensures ∙ w.if-not-table_right.true) refl
      | then-not-table_right-via-else-not-table_right+then-not-pool_right w ↦ rw (e, sym c.table_right.ensures ∙ w.if-not-table_right.false, sym w.pool_right.ensures ∙ w.if-not-pool_right.true) refl
    ])

-- 1 and 2 pass
canvas_ok : (c : Else-not-pool_right) → is_canvas c.args.show.size.w c.args.show.size.h c.args.lent.canvas ≡ true
canvas_ok c = sym c.is_canvas.ensures ∙ c.if-not-is_canvas.false

table_ok : (c : Else-not-pool_right) → table_right c.args.show.table.now ≡ true
table_ok c = sym c.table_right.ensures ∙ c.if-not-table_right.false

pool_ok : (c : Else-not-pool_right) → pool_right c.args.show.table.now c.args.lent.pool ≡ true
pool_ok c = sym c.pool_right.ensures ∙ c.if-not-pool_right.false

-- the scratch decides
decides : (e : Else-not-pool_right) (k : ℕ) → let s = e.args.show in let l = e.args.lent in rundown_tests s.size.w s.table.now s.rundown.now ≡ Ok k
    → answer s.size.w s.size.h l.canvas s.table.now l.pool s.rundown.now l.first l.second ≡ scratch_test s.size.w s.size.h l.first l.second k s.rundown.now
decides e k q = rest_count _ _ _ _ _ _ _ _ k (canvas_ok e) (table_ok e) (pool_ok e) q

pub returns-in_err-layers : goal.returns-in_err-layers
returns-in_err-layers c =
    let e = (goal.at.returns-in_err-layers c).Else-not-pool_right in
    handed _ _ c.from_residual.ensures
    ∙ lost _ _ _ (rest_refused _ _ _ _ _ _ _ _ _ (canvas_ok e) (table_ok e) (pool_ok e) (lost_as _ _ _ (sym c.in_err-layers.ensures)))

pub returns-in_err-scratch_each : goal.returns-in_err-scratch_each
returns-in_err-scratch_each c =
    handed _ _ c.from_residual-in_err-scratch_each.ensures
    ∙ lost _ _ _ (decides (goal.at.returns-in_err-scratch_each c).Else-not-pool_right _ (found_as _ _ _ (sym c.in_ok-layers.ensures)).0 ∙ sym c.in_err-scratch_each.ensures)

pub returns : goal.returns
returns c =
    let s = c.args.show in
    let n = c.args.lent in
    let l = c.in_ok-layers.layers in
    ap (λ (ps : List ℕ). Ok (record { count = l.count; priorities = ps })) (found_as _ _ _ (sym c.in_ok-layers.ensures)).1
    ∙ found _ _ _ (decides (goal.at.returns c).Else-not-pool_right _ (found_as _ _ _ (sym c.in_ok-layers.ensures)).0 ∙ all_suffice s.size.w s.size.h n.first n.second l.count _ s.rundown.now (sym c.in_ok-scratch_each.ensures))
