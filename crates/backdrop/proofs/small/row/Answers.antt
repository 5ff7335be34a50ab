-- `row`: the cells inside, and then the last.
use Prim.Native.Nat.{ℕ, ◌+◌, ◌*◌, ◌/◌, ◌%◌, ◌<◌}
use mathlib.Core.Path.{refl, sym, ap, ◌∙◌, subst}
use mathlib.Core.List.{List}
use native.Mathlib.Omega.{arith}
use lib.ListN.{length}
use Rattle.canvas.specs.Rows.{map_row, below}
use Rattle.canvas.proofs.Laws.Rows.{Rowed, rowed_end, map_row_then}
use Rattle.backdrop.proofs.Bytes.{in_row, cell_at, rowed_cell, again}
use Rattle.backdrop.proofs.small.row.Goals as goal

pub loop-i-init : goal.loop-i-init
loop-i-init g c =
    let a = c.args in
    let r = c.row_inside in
    let q = c.min-q.result in
    record {
      within = omega (arith, r.auto.out, c.min-q.ensures, c.requires.3);
      long = refl;
      done = again (λ j. cell_at a.px.now a.s g.row.K a.m (j % 3) (j / 3)) (3 * q) a.out.now r.ensures;
    }

pub loop-i-preserved : goal.loop-i-preserved
loop-i-preserved g c =
    let a = c.args in
    let l = c.loop-i in
    let room : 3 * l.i + 2 < length l.out = omega (arith, c.loop-i-test.true, l.invariant.long, c.row_inside.auto.out, c.requires.3) in
    subst (λ (r : List ℕ). Rowed (in_row (cell_at a.px.now a.s g.row.K a.m)) c.row_inside.new.out r (3 * (l.i + 1))) (sym c.put.ensures)
    (rowed_cell (cell_at a.px.now a.s g.row.K a.m) l.i l.invariant room c.cell.ensures)

pub returns : goal.returns
returns g c =
    let a = c.args in
    let l = c.loop-i in
    let r = c.row_inside in
    let f = in_row (cell_at a.px.now a.s g.row.K a.m) in
    rowed_end l.invariant (omega (arith, c.loop-i-test.false, l.invariant.long, r.auto.out, c.requires.3)) ∙ ap (map_row f) r.ensures ∙ map_row_then (below (3 * c.min-q.result) f) f a.out.now
