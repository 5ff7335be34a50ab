-- `step_four`: four columns, read before any is stored.
use Prim.Native.Nat.{ℕ, ◌≤◌, ◌<◌, ◌+◌, ◌*◌}
use mathlib.Core.Path.{◌≡◌}
use mathlib.Core.List.{List, []}
use native.Mathlib.Omega.{arith}
use lib.ListN.{length, get_or, length-set}
use Rattle.boxblur.specs.declared.Axis.TheVariants.{Columns}
use Rattle.boxblur.specs.Box.{held}
use Rattle.boxblur.specs.Private.{Step, slid, sums_at, window_cell}
use Rattle.boxblur.proofs.Pass.{split_fits, split_slides, split_four, block_place}
use Rattle.boxblur.proofs.columns.step_four.Goals as goal
use Rattle.boxblur.proofs.columns.step_four.Goals.{After-block_at-old}

pub hold-requires : goal.hold-requires
hold-requires c =
    let p = c.requires in
    (c.args.pass.fits.tall, (omega (arith, c.args.pass.fits.low, p.1.0), c.args.pass.fits.radius))

pub block_at-new-requires : goal.block_at-new-requires
block_at-new-requires c =
    let p = c.requires in
    (c.args.pass.fits.narrow, (omega (arith, c.args.pass.fits.narrow, p.1.1.0), omega (arith, c.args.pass.fits.low, c.hold.ensures.1)))

pub hold-requires-2 : goal.hold-requires-2
hold-requires-2 c =
    let p = c.requires in
    (c.args.pass.fits.tall, (omega (arith, c.args.pass.fits.low, p.1.0), omega arith))

pub block_at-old-requires : goal.block_at-old-requires
block_at-old-requires c =
    let p = c.requires in
    (c.args.pass.fits.narrow, (omega (arith, c.args.pass.fits.narrow, p.1.1.0), omega (arith, c.args.pass.fits.low, c.hold-2.ensures.1)))

-- where the row that comes and the row that leaves begin
new_row : (c : After-block_at-old) (j : ℕ) → let a = c.args in c.block_at-new.result + j * 3 ≡ window_cell Columns a.pass.blur (a.x + j) a.y (2 * a.pass.blur.r + 1)
new_row c j = let a = c.args in block_place a.pass.blur.w a.x j _ (held a.pass.blur.h a.pass.blur.r a.y (2 * a.pass.blur.r + 1)) _ c.block_at-new.ensures.0 c.hold.ensures.0

old_row : (c : After-block_at-old) (j : ℕ) → let a = c.args in c.block_at-old.result + j * 3 ≡ window_cell Columns a.pass.blur (a.x + j) a.y 0
old_row c j = let a = c.args in block_place a.pass.blur.w a.x j _ (held a.pass.blur.h a.pass.blur.r a.y 0) _ c.block_at-old.ensures.0 c.hold-2.ensures.0

-- the step at column j
fits : (c : After-block_at-old) (j : ℕ) → let a = c.args in a.i ≤ j → j < a.i + 4 →
    Step a.pass.src.now (get_or a.s.now j []) (c.block_at-new.result + j * 3) (c.block_at-old.result + j * 3) a.pass.blur.inv × ((j < length a.s.now) × (j ≤ 4096))
fits c j h k =
    let a = c.args in
    let p = c.requires in
    let m : j < length a.s.now = omega (arith, p.1.1.1) in (
      split_fits a.pass.src.now a.pass.blur a.pass.fits a.x (length a.s.now) a.y a.i j a.s.now p.0 p.1.0 h m p.1.1.0 _ _ (new_row c j) (old_row c j)
          (λ i. c.args.pass.bytes i),
      (omega (arith, p.1.1.1), omega (arith, c.args.pass.fits.narrow, p.1.1.0)),
    )

slides : (c : After-block_at-old) (j : ℕ) (v : List ℕ) → let a = c.args in a.i ≤ j → j < a.i + 4 →
    v ≡ slid a.pass.src.now (get_or a.s.now j []) (c.block_at-new.result + j * 3) (c.block_at-old.result + j * 3) a.pass.blur.inv → v ≡ sums_at Columns a.pass.src.now a.pass.blur (a.x + j) (a.y + 1)
slides c j v h k e =
    let a = c.args in
    let p = c.requires in
    let m : j < length a.s.now = omega (arith, p.1.1.1) in
    split_slides a.pass.src.now a.pass.blur a.pass.fits a.x (length a.s.now) a.y a.i j a.s.now p.0 p.1.0 h m p.1.1.0 _ _ (new_row c j) (old_row c j) e

few : (c : After-block_at-old) → (c.args.i + 4 ≤ 4096) × (c.args.i + 4 ≤ length c.args.s.now)
few c = let p = c.requires in (omega (arith, c.args.pass.fits.narrow, p.1.1), p.1.1.1)

pub returns : goal.returns
returns c =
    let a = c.args in
    split_four a.pass.src.now a.pass.blur a.x (length a.s.now) a.y a.i a.s.now _ _ _ _ c.requires.0 (few (goal.at.returns c).After-block_at-old).1
    (slides (goal.at.returns c).After-block_at-old a.i _ (omega arith) (omega arith) c.stepped-a.ensures) (slides (goal.at.returns c).After-block_at-old (a.i + 1) _ (omega arith) (omega arith) c.stepped-b.ensures)
    (slides (goal.at.returns c).After-block_at-old (a.i + 2) _ (omega arith) (omega arith) c.stepped-c.ensures) (slides (goal.at.returns c).After-block_at-old (a.i + 3) _ (omega arith) (omega arith) c.stepped-d.ensures)

pub overflow_mul-blur : goal.overflow_mul-blur
overflow_mul-blur c = omega (arith, c.args.pass.fits.radius)

pub overflow_add-blur : goal.overflow_add-blur
overflow_add-blur c = omega (arith, c.args.pass.fits.radius)

pub stepped-a-requires : goal.stepped-a-requires
stepped-a-requires c = fits (goal.at.stepped-a-requires c).After-block_at-old _ (omega arith) (omega arith)

pub overflow_add-i : goal.overflow_add-i
overflow_add-i c = omega (arith, few (goal.at.overflow_add-i c).After-block_at-old)

pub stepped-b-requires : goal.stepped-b-requires
stepped-b-requires c = fits (goal.at.stepped-b-requires c).After-block_at-old _ (omega arith) (omega arith)

pub overflow_add-i-2 : goal.overflow_add-i-2
overflow_add-i-2 c = omega (arith, few (goal.at.overflow_add-i-2 c).After-block_at-old)

pub stepped-c-requires : goal.stepped-c-requires
stepped-c-requires c = fits (goal.at.stepped-c-requires c).After-block_at-old _ (omega arith) (omega arith)

pub overflow_add-i-3 : goal.overflow_add-i-3
overflow_add-i-3 c = omega (arith, few (goal.at.overflow_add-i-3 c).After-block_at-old)

pub stepped-d-requires : goal.stepped-d-requires
stepped-d-requires c = fits (goal.at.stepped-d-requires c).After-block_at-old _ (omega arith) (omega arith)

pub offset_bounds-s-i : goal.offset_bounds-s-i
offset_bounds-s-i c = omega (arith, few (goal.at.offset_bounds-s-i c).After-block_at-old)

pub bounds-s-i : goal.bounds-s-i
bounds-s-i c = omega (arith, few (goal.at.bounds-s-i c).After-block_at-old)

pub overflow_add-b : goal.overflow_add-b
overflow_add-b c = omega (arith, few (goal.at.overflow_add-b c).After-block_at-old)

pub offset_bounds-s-i-2 : goal.offset_bounds-s-i-2
offset_bounds-s-i-2 c = omega (arith, few (goal.at.offset_bounds-s-i-2 c).After-block_at-old)

pub bounds-s-i-2 : goal.bounds-s-i-2
bounds-s-i-2 c = simp length-set (omega (arith, few (goal.at.bounds-s-i-2 c).After-block_at-old))

pub overflow_add-c : goal.overflow_add-c
overflow_add-c c = omega (arith, few (goal.at.overflow_add-c c).After-block_at-old)

pub offset_bounds-s-i-3 : goal.offset_bounds-s-i-3
offset_bounds-s-i-3 c = omega (arith, few (goal.at.offset_bounds-s-i-3 c).After-block_at-old)

pub bounds-s-i-3 : goal.bounds-s-i-3
bounds-s-i-3 c = simp length-set (omega (arith, few (goal.at.bounds-s-i-3 c).After-block_at-old))

pub overflow_add-d : goal.overflow_add-d
overflow_add-d c = omega (arith, few (goal.at.overflow_add-d c).After-block_at-old)

pub offset_bounds-s-i-4 : goal.offset_bounds-s-i-4
offset_bounds-s-i-4 c = omega (arith, few (goal.at.offset_bounds-s-i-4 c).After-block_at-old)

pub bounds-s-i-4 : goal.bounds-s-i-4
bounds-s-i-4 c = simp length-set (omega (arith, few (goal.at.bounds-s-i-4 c).After-block_at-old))

pub shape_of-s : goal.shape_of-s
shape_of-s c = simp length-set
