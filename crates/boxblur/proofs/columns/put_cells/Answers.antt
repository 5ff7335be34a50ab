-- `put_cells`: the means so far.
use Prim.Native.Nat.{ℕ, ◌≤◌, ◌<◌, ◌+◌, ◌-◌, ◌*◌}
use mathlib.Core.Path.{◌≡◌, ◌∙◌, ap}
use native.Mathlib.Omega.{arith}
use lib.ListN.{length}
use Rattle.boxblur.specs.Private.{means, span}
use Rattle.boxblur.proofs.Pass.{span_none, span_length, put_more}
use Rattle.boxblur.proofs.columns.put_cells.Goals as goal
use Rattle.boxblur.proofs.columns.put_cells.Goals.{In-loop-j}

-- a column of the block is a small number
few : (c : In-loop-j) → c.loop-j.j < 4096
few c = let p = c.requires in omega (arith, p.within, p.narrow, c.loop-j-test.true)

long : (c : In-loop-j) → length c.loop-j.dst ≡ length c.args.dst.now
long c = let a = c.args in ap length c.loop-j.invariant ∙ span_length (means a.s.now a.x) a.w a.y (a.x + a.i) (c.loop-j.j - a.i) a.dst.now

-- a cell of the row lies in it
room : (y w x j m o n : ℕ) → o ≡ (y * w + x) * 3 → x + m ≤ w → (y * w + w) * 3 ≤ n → j < m → o + j * 3 + 3 ≤ n
room y w x j m o n e a b h = omega arith

pub put_cell-requires : goal.put_cell-requires
put_cell-requires c =
    let p = c.requires in
    let a = c.args in
    let k = c.loop-j-test.true in
    let r = room a.y a.w a.x c.loop-j.j (a.i + a.c) c.block_at-o.result (length a.dst.now) c.block_at-o.ensures.0 p.within p.here k in
    (omega (arith, r, long (goal.at.put_cell-requires c).In-loop-j), p.small _ k)

pub loop-j-preserved : goal.loop-j-preserved
loop-j-preserved c =
    let a = c.args in
    let l = c.loop-j in
    put_more a.s.now a.w a.y a.x a.i l.j c.block_at-o.result a.dst.now l.dst _ l.auto.j l.invariant c.block_at-o.ensures.0 c.put_cell.ensures

pub returns : goal.returns
returns c =
    let a = c.args in
    let l = c.loop-j in
    let k : l.j - a.i ≡ a.c = omega (arith, l.auto, c.loop-j-test.false) in
    l.invariant ∙ ap (λ (k : ℕ). span (means a.s.now a.x) a.w a.y (a.x + a.i) k a.dst.now) k

pub block_at-o-requires : goal.block_at-o-requires
block_at-o-requires c = let p = c.requires in (p.narrow, (omega (arith, p.narrow, p.within), p.low))

pub loop-j-init : goal.loop-j-init
loop-j-init c =
    let a = c.args in
    let z : a.i - a.i ≡ 0 = omega arith in
    rw z (span_none (means a.s.now a.x) a.w a.y (a.x + a.i) a.dst.now)

pub bounds-s-j : goal.bounds-s-j
bounds-s-j c = omega (arith, c.requires.known, c.loop-j-test.true)

pub overflow_mul-j : goal.overflow_mul-j
overflow_mul-j c = omega (arith, few (goal.at.overflow_mul-j c).In-loop-j)

pub overflow_add-o : goal.overflow_add-o
overflow_add-o c = omega (arith, few (goal.at.overflow_add-o c).In-loop-j, c.block_at-o.ensures.1)

pub shape_of-dst : goal.shape_of-dst
shape_of-dst c = let a = c.args in ap length c.loop-j.invariant ∙ span_length (means a.s.now a.x) a.w a.y (a.x + a.i) (c.loop-j.j - a.i) a.dst.now
