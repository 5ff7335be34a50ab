-- `put`: the loop's invariant is `Boxing` at the rule that gives v, and each turn fills one row of the box.
use mathlib.Core.Path.{refl, ◌∙◌}
use Rattle.canvas.proofs.Laws.Box.{box_start, box_row, box_end}
use Rattle.stain.specs.Private.{put}
use Rattle.stain.proofs.Layers.{filled}
use Rattle.stain.proofs.put.Goals as goal

pub loop-y-init : goal.loop-y-init
loop-y-init c = let p = c.requires in box_start p.size.0 p.inside.0 p.inside.1 p.inside.2 p.inside.3

pub loop-y-preserved : goal.loop-y-preserved
loop-y-preserved c = box_row _ c.loop-y.invariant c.loop-y-test.true (λ i p _. refl) (c.fill.ensures.after (λ y e. e) ∙ filled c.args.v 0 _)

pub returns : goal.returns
unfolding put
returns c = box_end c.loop-y.invariant c.loop-y-test.false
