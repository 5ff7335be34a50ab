-- The pixels passed are done, and v is the next one.
use Rattle.std.proofs.Common.{◌+◌, ◌%◌, ◌^◌, refl, sym, ap, ◌∙◌, arith}
use Rattle.canvas.proofs.Laws.Rows.{rowed_start, rowed_more, rowed_end}
use Rattle.records.specs.Record.{pixel}
use Rattle.records.proofs.Steps.{pixel_next}
use Rattle.records.proofs.start.Goals as goal

pub loop-p-init : goal.loop-p-init
unfolding pixel
loop-p-init c = (rowed_start, refl)

pub loop-p-preserved : goal.loop-p-preserved
loop-p-preserved c =
    let inv = c.loop-p.invariant in
    let step = c.args.step in
    (rowed_more inv.0 (omega (arith, inv.0.long)) inv.1, ap (λ v. (v + step) % 2 ^ 32) inv.1 ∙ sym (pixel_next c.args.first step c.loop-p.p-index))

pub returns : goal.returns
returns c = rowed_end c.loop-p.invariant.0 (omega (arith, c.loop-p.invariant.0.long))
