-- `any`: the greatest byte of those passed.
use mathlib.Core.Path.{refl, ap, ◌∙◌}
use native.Mathlib.Decide.{dec_lt}
use native.Mathlib.Omega.{arith}
use lib.Dec.{ltb}
use lib.ListN.{get_or}
use Rattle.taint.specs.Stain.{nonempty}
use Rattle.stain.proofs.Sets.{any_take, any_keep}
use Rattle.stain.proofs.any.Goals as goal

pub loop-v-init : goal.loop-v-init
unfolding nonempty
loop-v-init c = refl

pub loop-v-preserved : goal.loop-v-preserved
loop-v-preserved c =
    let row = c.args.row.now in
    let l = c.loop-v in
    elim (dec_lt l.most (get_or row l.v-index 0)) [
      | yes h ↦ ap (ltb 0) (omega (arith, c.max-most.ensures)) ∙ any_take row l.most l.v-index l.invariant h
      | no h ↦ ap (ltb 0) (omega (arith, c.max-most.ensures)) ∙ any_keep row l.most l.v-index l.invariant (omega arith)
    ]
