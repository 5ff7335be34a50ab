use Prim.Native.Nat.{◌+◌}
use mathlib.Core.Path.{◌≡◌, refl, ◌∙◌}
use native.Mathlib.Omega.{arith}
use lib.ListN.{length, length-set}
use Rattle.boxblur.specs.declared.Axis.TheVariants.{Columns}
use Rattle.boxblur.proofs.Pass.{in_line, block_none, block_more}
use Rattle.boxblur.proofs.columns.block_sums.Goals as goal

pub loop-i-init : goal.loop-i-init
loop-i-init c =
    let a = c.args in
    (refl, block_none a.pass.src.now a.pass.blur a.x 0 a.s.now)

pub first_scaled-requires : goal.first_scaled-requires
first_scaled-requires c =
    let a = c.args in
    (in_line a.pass.blur _ a.pass.fits (a.x + c.loop-i.i) 0 (omega (arith, c.requires, c.loop-i-test.true, c.loop-i.invariant.0)) a.pass.fits.tall Columns, a.pass.fits.inverse)

pub loop-i-preserved : goal.loop-i-preserved
loop-i-preserved c =
    let a = c.args in
    let l = c.loop-i in (
      length-set l.s l.i c.first_scaled.result ∙ l.invariant.0,
      block_more a.pass.src.now a.pass.blur a.x 0 l.i l.s c.first_scaled.result l.invariant.1 (omega (arith, c.loop-i-test.true, l.invariant.0)) c.first_scaled.ensures,
    )

pub shape_of-s : goal.shape_of-s
shape_of-s c = c.loop-i.invariant.0

pub returns : goal.returns
returns c =
    let i : c.loop-i.i ≡ length c.args.s.now = omega (arith, c.loop-i.invariant.0) in
    λ j k. c.loop-i.invariant.1 j (omega (arith, i, k))
