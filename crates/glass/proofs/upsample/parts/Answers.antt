-- `parts`: the loop's invariant is `Rowed` at the pixel's rule, a part to a turn.
use Prim.Native.Nat.{ℕ, ◌+◌, ◌*◌, ◌≤◌, ◌<◌, min}
use mathlib.Core.Path.{◌≡◌, ap, ◌∙◌}
use native.Mathlib.Nat.{mul-le-mul_right}
use native.Mathlib.Omega.{arith}
use lib.ListN.{length}
use Rattle.canvas.proofs.Laws.Rows.{Rowed, rowed_start}
use Rattle.canvas.proofs.Laws.Spans.{back, part_long}
use Rattle.glass.specs.Private.{run_pix}
use Rattle.glass.proofs.RunRow.{at_index, part_wide, part_more, run_end, even_some}
use Rattle.glass.proofs.upsample.parts.Goals as goal
use Rattle.glass.proofs.upsample.parts.Goals.{After-part, After-strip_end-end}

-- the part has a run, at most 128, and lies in the row and in the picture
few : (c : After-strip_end-end) → let a = c.args in let l = c.loop-at in let e = c.strip_end-end.result in
    (l.at < e) × (e ≤ a.count) × (e ≤ l.at + 128) × (a.m + a.count < a.view.p.lw) × (a.view.p.lw ≤ 4096) × (l.at * a.view.p.k ≤ e * a.view.p.k) × (e * a.view.p.k ≤ length l.dst) × (length l.dst ≤ 16384)
few c =
    let a = c.args in
    let l = c.loop-at in
    let e = c.strip_end-end.result in
    let E = even_some c.requires.3 in
    let q = c.strip_end-end.ensures in
    let t = c.loop-at-test.true in
    let long : length l.dst ≡ a.count * a.view.p.k = l.invariant.long ∙ c.requires.1 in
    let turn : l.at * a.view.p.k ≤ e * a.view.p.k = mul-le-mul_right a.view.p.k (omega (arith, q, t)) in
    let room : e * a.view.p.k ≤ a.count * a.view.p.k = mul-le-mul_right a.view.p.k (omega (arith, q)) in
    let all : a.count * a.view.p.k ≤ 4096 * a.view.p.k = mul-le-mul_right a.view.p.k (omega (arith, c.requires.2, c.args.view.sized.narrow)) in
    (omega (arith, q, t), omega (arith, q), omega (arith, q), c.requires.2, c.args.view.sized.narrow, turn, omega (arith, room, long), omega (arith, all, long, E))

pub part-requires : goal.part-requires
part-requires c =
    let l = c.loop-at in
    let e = c.strip_end-end.result in
    let k : ℕ = c.args.view.p.k in
    let f = few (goal.at.part-requires c).After-strip_end-end in
    (c.requires.0, part_long l.dst (l.at * k) (e * k) f.5 f.6 ∙ part_wide c.requires.3 l.at e, omega (arith, f), c.requires.3, omega (arith, f))

start : (n k : ℕ) → 0 ≡ min 0 n * k
start n k = let e : min 0 n ≡ 0 = omega arith in rw e (omega arith)

-- a part more
more : (c : After-part) → let a = c.args in
    Rowed (λ j q. run_pix a.view.p a.view.lo.now a.flat a.fy a.m j) a.dst.now (back (c.loop-at.at * a.view.p.k) (c.strip_end-end.result * a.view.p.k) c.loop-at.dst c.part.new.dst) (min (c.loop-at.at + 128) a.count * a.view.p.k)
more c =
    let a = c.args in
    let l = c.loop-at in
    let f = few c.before.before in
    let here : min l.at a.count ≡ l.at = omega (arith, c.loop-at-test.true) in
    let before = at_index l.invariant (ap (λ (m : ℕ). m * a.view.p.k) here) in
    at_index (part_more a.view.p a.view.lo.now a.flat a.fy a.m l.at c.strip_end-end.result c.requires.3 before (omega (arith, f)) f.6 c.part.ensures) (ap (λ (m : ℕ). m * a.view.p.k) c.strip_end-end.ensures)

pub loop-at-preserved : goal.loop-at-preserved
loop-at-preserved c = more (goal.at.loop-at-preserved c).After-part

pub returns : goal.returns
returns c = run_end c.args.view.p.k c.loop-at.invariant c.requires.1 (omega (arith, c.loop-at-test.false))

pub returns-2 : goal.returns-2
returns-2 c = run_end c.args.view.p.k (more (goal.at.returns-2 c).After-part) c.requires.1 (omega arith)

pub loop-at-init : goal.loop-at-init
loop-at-init c = at_index rowed_start (start c.args.count c.args.view.p.k)

pub overflow_mul-from : goal.overflow_mul-from
overflow_mul-from c = record { fits = omega (arith, few (goal.at.overflow_mul-from c).After-strip_end-end) }

pub overflow_mul-to : goal.overflow_mul-to
overflow_mul-to c = record { fits = omega (arith, few (goal.at.overflow_mul-to c).After-strip_end-end) }

pub offset_bounds-dst-from : goal.offset_bounds-dst-from
offset_bounds-dst-from c = omega (arith, few (goal.at.offset_bounds-dst-from c).After-strip_end-end)

pub slice_bounds-part-count : goal.slice_bounds-part-count
slice_bounds-part-count c = omega (arith, few (goal.at.slice_bounds-part-count c).After-strip_end-end)

pub slice_bounds-part-start : goal.slice_bounds-part-start
slice_bounds-part-start c = omega (arith, few (goal.at.slice_bounds-part-start c).After-strip_end-end)

pub slice_bounds-part-end : goal.slice_bounds-part-end
slice_bounds-part-end c = omega (arith, few (goal.at.slice_bounds-part-end c).After-strip_end-end)

pub overflow_sub-end : goal.overflow_sub-end
overflow_sub-end c = omega (arith, few (goal.at.overflow_sub-end c).After-strip_end-end)

pub overflow_add-m : goal.overflow_add-m
overflow_add-m c = omega (arith, few (goal.at.overflow_add-m c).After-strip_end-end)

pub shape_of-dst : goal.shape_of-dst
shape_of-dst c = c.loop-at.invariant.long

pub shape_of-dst-2 : goal.shape_of-dst-2
shape_of-dst-2 c = (more (goal.at.shape_of-dst-2 c).After-part).long
