-- `cell`: one more row, and the mean of all.
use Prim.Native.Nat.{ℕ, ◌*◌, ◌≤◌}
use mathlib.Core.Path.{◌≡◌, refl, ap, ◌∙◌}
use mathlib.Core.List.{List}
use native.Mathlib.Omega.{arith}
use lib.ListN.{get_or}
use Rattle.backdrop.specs.Private.{rgb}
use Rattle.backdrop.proofs.Bytes.{rows_sum, rows_none, rows_more, within_rows, within_along, scale_size, scale_rows, mean_rows}
use Rattle.backdrop.proofs.small.cell.Goals as goal

pub loop-j-init : goal.loop-j-init
loop-j-init g c = let a = c.args in rows_none g.row.K a.px.now a.s a.m a.x refl

pub add-next-requires : goal.add-next-requires
add-next-requires g c =
    let a = c.args in
    let l = c.loop-j in
    let k = c.requires.2 in
    (within_rows g.row.K a.px.now a.s a.m a.x l.j 4080 (scale_rows g.row.K l.j k l.auto.j-end) l.invariant, within_along a.px.now (get_or a.s l.j 0) a.m a.x g.row.K 4080 (omega (arith, (scale_size _ k).1)) c.sum.ensures)

pub loop-j-preserved : goal.loop-j-preserved
loop-j-preserved g c =
    let a = c.args in
    rows_more g.row.K a.px.now a.s a.m a.x c.loop-j.j c.loop-j.invariant c.sum.ensures c.add-next.ensures

all : (k : ℕ) (px s : List ℕ) (m x : ℕ) {j : ℕ} {t : List ℕ} → j ≤ k → k ≤ j → t ≡ rgb (rows_sum k px s m x j) → t ≡ rgb (rows_sum k px s m x k)
all k px s m x {j} p q e = let z : j ≡ k = omega arith in e ∙ ap (λ (n : ℕ). rgb (rows_sum k px s m x n)) z

pub mean-requires : goal.mean-requires
mean-requires g c =
    let a = c.args in
    let k = g.row.K in
    let z = scale_size k c.requires.2 in
    (z.3, within_rows k a.px.now a.s a.m a.x k (k * k * 255) (omega (arith, z.2)) (all k a.px.now a.s a.m a.x c.loop-j.auto.j-end c.loop-j-test.false c.loop-j.invariant))

pub returns : goal.returns
returns g c =
    let a = c.args in
    mean_rows g.row.K a.px.now a.s a.m a.x refl (all g.row.K a.px.now a.s a.m a.x c.loop-j.auto.j-end c.loop-j-test.false c.loop-j.invariant) c.mean.ensures
