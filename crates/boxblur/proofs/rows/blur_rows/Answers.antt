use Prim.Native.Nat.{ℕ}
use mathlib.Core.Path.{◌≡◌, ◌∙◌, ap}
use native.Mathlib.Omega.{arith}
use lib.ListN.{length}
use Rattle.boxblur.specs.declared.Axis.TheVariants.{Rows}
use Rattle.boxblur.specs.Private.{new_byte, stripe}
use Rattle.boxblur.proofs.Pass.{stripe_none, stripe_more, stripe_length, stripe_end}
use Rattle.boxblur.proofs.rows.blur_rows.Goals as goal

-- src/rows.rt:84:5
pub loop-y-init : goal.loop-y-init
loop-y-init c =
    let a = c.args in
    stripe_none (new_byte Rows a.pass.src.now a.pass.blur) a.pass.blur.w 0 a.pass.blur.w a.dst.now

-- src/rows.rt:85:9
pub blur_row-requires : goal.blur_row-requires
blur_row-requires c =
    let a = c.args in
    let l = c.loop-y in
    (ap length l.invariant ∙ stripe_length (new_byte Rows a.pass.src.now a.pass.blur) a.pass.blur.w 0 a.pass.blur.w l.y a.dst.now ∙ c.requires, c.loop-y-test.true)

-- src/rows.rt:84:5
pub loop-y-preserved : goal.loop-y-preserved
loop-y-preserved c =
    let a = c.args in
    let l = c.loop-y in
    stripe_more (new_byte Rows a.pass.src.now a.pass.blur) a.pass.blur.w 0 a.pass.blur.w l.y a.dst.now l.dst _ l.invariant c.blur_row.ensures

-- src/rows.rt:79:1
pub shape_of-dst : goal.shape_of-dst
shape_of-dst c =
    let a = c.args in
    let l = c.loop-y in
    ap length l.invariant ∙ stripe_length (new_byte Rows a.pass.src.now a.pass.blur) a.pass.blur.w 0 a.pass.blur.w l.y a.dst.now

-- src/rows.rt:79:1
pub returns : goal.returns
returns c =
    let a = c.args in
    let l = c.loop-y in
    let y : l.y ≡ a.pass.blur.h = omega arith in
    stripe_end Rows a.pass.src.now a.pass.blur _ a.pass.fits a.dst.now l.dst c.requires (l.invariant ∙ ap (λ (y : ℕ). stripe (new_byte Rows a.pass.src.now a.pass.blur) a.pass.blur.w 0 a.pass.blur.w y a.dst.now) y)
