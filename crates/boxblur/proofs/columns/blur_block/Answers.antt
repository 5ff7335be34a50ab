use Prim.Native.Nat.{ℕ}
use mathlib.Core.Path.{◌≡◌, ◌∙◌, ap}
use native.Mathlib.Omega.{arith}
use lib.ListN.{length}
use Rattle.boxblur.specs.declared.Axis.TheVariants.{Columns}
use Rattle.boxblur.specs.Private.{new_byte, stripe}
use Rattle.boxblur.proofs.Pass.{stripe_none, stripe_more, stripe_length}
use Rattle.boxblur.proofs.columns.blur_block.Goals as goal

pub block_sums-requires : goal.block_sums-requires
block_sums-requires c = c.requires.1

pub loop-y-init : goal.loop-y-init
loop-y-init c =
    let a = c.args in
    (c.block_sums.auto.s, (c.block_sums.ensures, stripe_none (new_byte Columns a.pass.src.now a.pass.blur) a.pass.blur.w a.x (length a.s.now) a.dst.now))

pub block_row-requires : goal.block_row-requires
block_row-requires c =
    let a = c.args in
    let l = c.loop-y in
    let e = l.invariant.0 in
    (ap length l.invariant.1.1 ∙ stripe_length (new_byte Columns a.pass.src.now a.pass.blur) a.pass.blur.w a.x (length a.s.now) l.y a.dst.now ∙ c.requires.0, (rw e l.invariant.1.0, (c.loop-y-test.true, omega (arith, e, c.requires.1))))

pub loop-y-preserved : goal.loop-y-preserved
loop-y-preserved c =
    let a = c.args in
    let l = c.loop-y in
    let e = l.invariant.0 in
    let z = c.block_row.ensures in
    (c.block_row.auto.s ∙ e, (rw e at z.0, stripe_more (new_byte Columns a.pass.src.now a.pass.blur) a.pass.blur.w a.x (length a.s.now) l.y a.dst.now l.dst _ l.invariant.1.1 (rw e at z.1)))

pub shape_of-dst : goal.shape_of-dst
shape_of-dst c =
    let a = c.args in
    let l = c.loop-y in
    ap length l.invariant.1.1 ∙ stripe_length (new_byte Columns a.pass.src.now a.pass.blur) a.pass.blur.w a.x (length a.s.now) l.y a.dst.now

pub returns : goal.returns
returns c =
    let a = c.args in
    let l = c.loop-y in
    let y : l.y ≡ a.pass.blur.h = omega arith in
    l.invariant.1.1 ∙ ap (λ (y : ℕ). stripe (new_byte Columns a.pass.src.now a.pass.blur) a.pass.blur.w a.x (length a.s.now) y a.dst.now) y
