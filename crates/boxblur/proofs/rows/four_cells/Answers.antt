-- `four_cells`: one after the other.
use Prim.Native.Nat.{◌+◌}
use mathlib.Core.Path.{refl, ◌∙◌}
use native.Mathlib.Omega.{arith}
use Rattle.boxblur.proofs.Pass.{Along, along_start, along-length, along-on, along-all}
use Rattle.boxblur.proofs.rows.four_cells.Goals as goal
use Rattle.boxblur.proofs.rows.four_cells.Goals.{After-inner_cell-t, After-inner_cell-u, After-inner_cell-v}

-- after so many cells
one_on : (c : After-inner_cell-t) → let a = c.args in Along a.pass.src.now a.pass.blur a.y a.x (a.x + 4) (a.x + 1) a.dst.now c.inner_cell-t.new.dst c.inner_cell-t.result
one_on c =
    let a = c.args in
    let l : Along a.pass.src.now a.pass.blur a.y a.x (a.x + 4) a.x a.dst.now a.dst.now a.s = along_start (omega arith) c.requires.1.0 in
    along-on l 1 _ refl (omega arith) c.inner_cell-t.ensures

two_on : (c : After-inner_cell-u) → let a = c.args in Along a.pass.src.now a.pass.blur a.y a.x (a.x + 4) (a.x + 2) a.dst.now c.inner_cell-u.new.dst c.inner_cell-u.result
two_on c =
    let a = c.args in
    let l : Along a.pass.src.now a.pass.blur a.y a.x (a.x + 4) a.x a.dst.now a.dst.now a.s = along_start (omega arith) c.requires.1.0 in
    let m : Along a.pass.src.now a.pass.blur a.y a.x (a.x + 4) (a.x + 1) a.dst.now c.inner_cell-t.new.dst c.inner_cell-t.result = along-on l 1 _ refl (omega arith) c.inner_cell-t.ensures in
    along-on m 1 _ (omega arith) (omega arith) c.inner_cell-u.ensures

three_on : (c : After-inner_cell-v) → let a = c.args in Along a.pass.src.now a.pass.blur a.y a.x (a.x + 4) (a.x + 3) a.dst.now c.inner_cell-v.new.dst c.inner_cell-v.result
three_on c =
    let a = c.args in
    let l : Along a.pass.src.now a.pass.blur a.y a.x (a.x + 4) a.x a.dst.now a.dst.now a.s = along_start (omega arith) c.requires.1.0 in
    let m : Along a.pass.src.now a.pass.blur a.y a.x (a.x + 4) (a.x + 1) a.dst.now c.inner_cell-t.new.dst c.inner_cell-t.result = along-on l 1 _ refl (omega arith) c.inner_cell-t.ensures in
    let n : Along a.pass.src.now a.pass.blur a.y a.x (a.x + 4) (a.x + 2) a.dst.now c.inner_cell-u.new.dst c.inner_cell-u.result = along-on m 1 _ (omega arith) (omega arith) c.inner_cell-u.ensures in
    along-on n 1 _ (omega arith) (omega arith) c.inner_cell-v.ensures

pub inner_cell-t-requires : goal.inner_cell-t-requires
inner_cell-t-requires c = let p = c.requires in (p.0, (p.1.0, (p.1.1.0, (p.1.1.1.0, omega (arith, p.1.1.1.1)))))

pub inner_cell-u-requires : goal.inner_cell-u-requires
inner_cell-u-requires c = let p = c.requires in let l = one_on (goal.at.inner_cell-u-requires c).After-inner_cell-t in (along-length l ∙ p.0, (l.sums, (p.1.1.0, (omega (arith, p.1.1.1.0), omega (arith, p.1.1.1.1)))))

pub inner_cell-v-requires : goal.inner_cell-v-requires
inner_cell-v-requires c = let p = c.requires in let l = two_on (goal.at.inner_cell-v-requires c).After-inner_cell-u in (along-length l ∙ p.0, (l.sums, (p.1.1.0, (omega (arith, p.1.1.1.0), omega (arith, p.1.1.1.1)))))

pub inner_cell-requires : goal.inner_cell-requires
inner_cell-requires c = let p = c.requires in let l = three_on (goal.at.inner_cell-requires c).After-inner_cell-v in (along-length l ∙ p.0, (l.sums, (p.1.1.0, (omega (arith, p.1.1.1.0), omega (arith, p.1.1.1.1)))))

pub returns : goal.returns
returns c = along-all (along-on (three_on (goal.at.returns c).After-inner_cell-v) 1 (c.args.x + 4) (omega arith) (omega arith) c.inner_cell.ensures) 4 refl
