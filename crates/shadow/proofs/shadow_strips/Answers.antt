-- `shadow_strips`: each turn finds the alphas of a strip's columns and paints it.
use Rattle.std.proofs.Common.{rules, ℕ, ◌+◌, ◌-◌, ◌≤◌, ◌≡◌, ◌++◌, List, length, take, drop, arith, length-append, length-drop, length-take}
use lib.ListN.{length-replicate}
use Rattle.shadow.specs.Shadow.{shadow_pix}
use Rattle.shadow.specs.Private.{Columns}
use Rattle.shadow.proofs.Rows.{columns_less, columns_front, striped_start, striped_more, striped_end}
use Rattle.shadow.proofs.shadow_strips.Goals as goal

pub loop-x0-init : goal.loop-x0-init
loop-x0-init c = (striped_start c.requires.0, length-replicate {A = ℕ} 2048 0)

pub col_alphas-requires : goal.col_alphas-requires
col_alphas-requires c = simp length-take (omega (arith, c.strip_end-x1.ensures, c.loop-x0-test.true, c.requires))

pub paint_rows-requires : goal.paint_rows-requires
paint_rows-requires c = λ y row r.
    let n : length row.now ≤ length (take (c.strip_end-x1.result - c.loop-x0.x0-counter) c.loop-x0.cols) =
    simp length-take (omega (arith, r.columns, c.strip_end-x1.ensures, c.loop-x0.invariant.1)) in
    let k = c.args.caster.now in
    let from = c.loop-x0.x0-counter in
    let rest : List ℕ = drop (c.strip_end-x1.result - from) c.loop-x0.cols in
    let here : Columns k.table (c.col_alphas.new.cols ++ rest) from (length row.now) k.rect k.shadow.blur = columns_front (columns_less c.col_alphas.ensures n) rest in
    let room : c.loop-x0.x0-counter + length row.now ≤ 4096 = omega (arith, r.columns, r.wide) in
    search (rules, here, room)

pub loop-x0-preserved : goal.loop-x0-preserved
loop-x0-preserved c =
    let k = c.args.caster.now in
    let n : ℕ = c.strip_end-x1.result - c.loop-x0.x0-counter in
    let long : length (c.col_alphas.new.cols ++ drop n c.loop-x0.cols) ≡ 2048 =
    simp (length-append, length-drop)
    (omega (arith, c.col_alphas.auto.cols, length-take n c.loop-x0.cols, c.strip_end-x1.ensures, c.loop-x0.invariant.1)) in
    (striped_more c.loop-x0.invariant.0 c.loop-x0-test.true c.strip_end-x1.ensures (c.paint_rows.ensures (shadow_pix k.table k.rect k.shadow) (λ y row row' r p. search rules)), long)

pub returns : goal.returns
returns c = striped_end c.loop-x0.invariant.0 c.loop-x0-test.false

pub returns-2 : goal.returns-2
returns-2 c =
    let k = c.args.caster.now in
    striped_end (striped_more c.loop-x0.invariant.0 c.loop-x0-test.true c.strip_end-x1.ensures (c.paint_rows.ensures (shadow_pix k.table k.rect k.shadow) (λ y row row' r p. search rules))) (omega arith)
