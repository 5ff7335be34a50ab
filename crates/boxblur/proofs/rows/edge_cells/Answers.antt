-- `edge_cells`: a turn at each cell, with the window's cells held to the row.
use native.Mathlib.Omega.{arith}
use Rattle.boxblur.proofs.Pass.{along_start, along-length, along-fits, along_more, along-end}
use Rattle.boxblur.proofs.rows.edge_cells.Goals as goal

pub offset-o-requires : goal.offset-o-requires
offset-o-requires c =
    let p = c.requires in
    (c.args.pass.fits.narrow, (omega (arith, c.args.pass.fits.narrow, p.1.1.1.1, c.loop-x-test.true), omega (arith, c.args.pass.fits.low, p.1.1.0)))

pub hold-requires : goal.hold-requires
hold-requires c =
    let p = c.requires in
    (c.args.pass.fits.wide, (omega (arith, c.args.pass.fits.narrow, p.1.1.1.1, c.loop-x-test.true), c.args.pass.fits.radius))

pub offset-new-requires : goal.offset-new-requires
offset-new-requires c =
    let p = c.requires in
    (c.args.pass.fits.narrow, (omega (arith, c.args.pass.fits.narrow, c.hold.ensures.1), omega (arith, c.args.pass.fits.low, p.1.1.0)))

pub hold-requires-in-loop-x : goal.hold-requires-in-loop-x
hold-requires-in-loop-x c =
    let p = c.requires in
    (c.args.pass.fits.wide, (omega (arith, c.args.pass.fits.narrow, p.1.1.1.1, c.loop-x-test.true), omega arith))

pub offset-old-requires : goal.offset-old-requires
offset-old-requires c =
    let p = c.requires in
    (c.args.pass.fits.narrow, (omega (arith, c.args.pass.fits.narrow, c.hold-in-loop-x.ensures.1), omega (arith, c.args.pass.fits.low, p.1.1.0)))

pub turn-u-requires : goal.turn-u-requires
turn-u-requires c =
    let p = c.requires in
    along-fits c.loop-x.invariant c.args.pass.fits p.0 p.1.1.0 c.loop-x-test.true p.1.1.1.1 _ _ _
    c.offset-o.ensures.0 (omega (arith, c.offset-new.ensures.0, c.hold.ensures.0)) (omega (arith, c.offset-old.ensures.0, c.hold-in-loop-x.ensures.0))
    (λ i. c.args.pass.bytes i)

pub loop-x-preserved : goal.loop-x-preserved
loop-x-preserved c =
    let p = c.requires in
    along_more c.loop-x.invariant c.args.pass.fits p.0 p.1.1.0 c.loop-x-test.true p.1.1.1.1 _ _ _
    c.offset-o.ensures.0 (omega (arith, c.offset-new.ensures.0, c.hold.ensures.0)) (omega (arith, c.offset-old.ensures.0, c.hold-in-loop-x.ensures.0))
    c.turn-u.ensures

pub loop-x-init : goal.loop-x-init
loop-x-init c = let p = c.requires in along_start p.1.1.1.0 p.1.0

pub overflow_mul-blur : goal.overflow_mul-blur
overflow_mul-blur c = omega (arith, c.args.pass.fits.radius)

pub overflow_add-blur : goal.overflow_add-blur
overflow_add-blur c = omega (arith, c.args.pass.fits.radius)

pub shape_of-dst : goal.shape_of-dst
shape_of-dst c = along-length c.loop-x.invariant

pub returns : goal.returns
returns c = along-end c.loop-x.invariant (λ l. omega (arith, c.loop-x-test.false))
