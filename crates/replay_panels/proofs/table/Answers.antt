-- The entries below i are put in.
use Rattle.std.proofs.Common.{◌≡◌, refl, ap, ◌∙◌, arith}
use Rattle.replay_panels.specs.Layer.{entries as put}
use Rattle.replay_panels.proofs.Steps.{entries_next}
use Rattle.replay_panels.proofs.table.Goals as goal

pub loop-i-init : goal.loop-i-init
unfolding put
loop-i-init c = refl

pub loop-i-preserved : goal.loop-i-preserved
loop-i-preserved c = entries_next _ c.loop-i.i _ _ c.loop-i.invariant c.entry.ensures

pub returns : goal.returns
returns c =
    let end : c.loop-i.i ≡ 32 = omega arith in
    c.loop-i.invariant ∙ ap (put _) end
