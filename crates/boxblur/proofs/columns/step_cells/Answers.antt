-- `step_cells`: the columns so far.
use Prim.Native.Nat.{ℕ, ◌≤◌, ◌<◌, ◌+◌, ◌*◌}
use mathlib.Core.Path.{◌≡◌, refl, ◌∙◌}
use native.Mathlib.Omega.{arith}
use lib.ListN.{length, length-set}
use Rattle.boxblur.specs.declared.Axis.TheVariants.{Columns}
use Rattle.boxblur.specs.Box.{held}
use Rattle.boxblur.specs.Private.{window_cell}
use Rattle.boxblur.proofs.Pass.{split_fits, split_slides, split_more, block_place}
use Rattle.boxblur.proofs.columns.step_cells.Goals as goal
use Rattle.boxblur.proofs.columns.step_cells.Goals.{After-block_at-old, In-loop-j}

pub hold-requires : goal.hold-requires
hold-requires c =
    let p = c.requires in
    (c.args.pass.fits.tall, (omega (arith, c.args.pass.fits.low, p.1.0), c.args.pass.fits.radius))

pub block_at-new-requires : goal.block_at-new-requires
block_at-new-requires c =
    let p = c.requires in
    (c.args.pass.fits.narrow, (omega (arith, c.args.pass.fits.narrow, p.1.1.0), omega (arith, c.args.pass.fits.low, c.hold.ensures.1)))

pub hold-requires-2 : goal.hold-requires-2
hold-requires-2 c =
    let p = c.requires in
    (c.args.pass.fits.tall, (omega (arith, c.args.pass.fits.low, p.1.0), omega arith))

pub block_at-old-requires : goal.block_at-old-requires
block_at-old-requires c =
    let p = c.requires in
    (c.args.pass.fits.narrow, (omega (arith, c.args.pass.fits.narrow, p.1.1.0), omega (arith, c.args.pass.fits.low, c.hold-2.ensures.1)))

-- where the row that comes and the row that leaves begin
new_row : (c : After-block_at-old) (j : ℕ) → let a = c.args in c.block_at-new.result + j * 3 ≡ window_cell Columns a.pass.blur (a.x + j) a.y (2 * a.pass.blur.r + 1)
new_row c j = let a = c.args in block_place a.pass.blur.w a.x j _ (held a.pass.blur.h a.pass.blur.r a.y (2 * a.pass.blur.r + 1)) _ c.block_at-new.ensures.0 c.hold.ensures.0

old_row : (c : After-block_at-old) (j : ℕ) → let a = c.args in c.block_at-old.result + j * 3 ≡ window_cell Columns a.pass.blur (a.x + j) a.y 0
old_row c j = let a = c.args in block_place a.pass.blur.w a.x j _ (held a.pass.blur.h a.pass.blur.r a.y 0) _ c.block_at-old.ensures.0 c.hold-2.ensures.0

-- a column of the block is one of its columns, and a small number
in_block : (c : In-loop-j) → (c.loop-j.j < length c.args.s.now) × ((c.loop-j.j < length c.loop-j.s) × (c.loop-j.j < 4096))
in_block c =
    let t = c.loop-j-test.true in
    let e = c.loop-j.invariant.0 in
    (omega (arith, t, e), (omega (arith, t, e), omega (arith, c.args.pass.fits.narrow, c.requires.1.1.0, t, e)))

pub stepped-u-requires : goal.stepped-u-requires
stepped-u-requires c =
    let a = c.args in
    let p = c.requires in
    let l = c.loop-j in
    let b = in_block (goal.at.stepped-u-requires c).In-loop-j in (
      split_fits a.pass.src.now a.pass.blur a.pass.fits a.x (length a.s.now) a.y l.j l.j l.s l.invariant.1 p.1.0 (omega arith) b.0 p.1.1.0 _ _ (new_row (goal.at.stepped-u-requires c).After-block_at-old l.j) (old_row (goal.at.stepped-u-requires c).After-block_at-old l.j)
          a.pass.bytes,
      (b.1.0, omega (arith, b.1.1)),
    )

pub loop-j-preserved : goal.loop-j-preserved
loop-j-preserved c =
    let a = c.args in
    let p = c.requires in
    let l = c.loop-j in
    let b = in_block (goal.at.loop-j-preserved c).In-loop-j in (
      length-set l.s l.j c.stepped-u.result ∙ l.invariant.0,
      split_more a.pass.src.now a.pass.blur a.x (length a.s.now) a.y l.j l.s _ l.invariant.1 b.1.0 (split_slides a.pass.src.now a.pass.blur a.pass.fits a.x (length a.s.now) a.y l.j l.j l.s l.invariant.1 p.1.0 (omega arith) b.0 p.1.1.0 _ _ (new_row (goal.at.loop-j-preserved c).After-block_at-old l.j) (old_row (goal.at.loop-j-preserved c).After-block_at-old l.j) c.stepped-u.ensures),
    )

pub returns : goal.returns
returns c =
    let l = c.loop-j in
    let j : length c.args.s.now ≤ l.j = omega (arith, c.loop-j-test.false, l.invariant.0) in
    λ i h. l.invariant.1.0 i (omega (arith, h, j))

pub overflow_mul-blur : goal.overflow_mul-blur
overflow_mul-blur c = omega (arith, c.args.pass.fits.radius)

pub overflow_add-blur : goal.overflow_add-blur
overflow_add-blur c = omega (arith, c.args.pass.fits.radius)

pub loop-j-init : goal.loop-j-init
loop-j-init c = (refl, c.requires.0)

pub offset_bounds-s-j : goal.offset_bounds-s-j
offset_bounds-s-j c = omega (arith, in_block (goal.at.offset_bounds-s-j c).In-loop-j)

pub shape_of-s : goal.shape_of-s
shape_of-s c = c.loop-j.invariant.0
