-- `col_alphas`: the columns passed so far have their alphas.
use Rattle.std.proofs.Common.{rules, ap, ◌∙◌}
use Rattle.canvas.proofs.Laws.Rows.{rowed_start, rowed_more, rowed_end}
use Rattle.shadow.specs.Shadow.{alpha_of}
use Rattle.shadow.proofs.Rows.{columns_found}
use Rattle.shadow.proofs.col_alphas.Goals as goal

pub loop-i-init : goal.loop-i-init
loop-i-init c = rowed_start

pub loop-i-preserved : goal.loop-i-preserved
loop-i-preserved c =
    let k = c.args.caster.now in
    rowed_more c.loop-i.invariant (search rules) (c.alpha.ensures ∙ ap (alpha_of k.table k.shadow.blur) c.col_sd.ensures)

pub returns : goal.returns
returns c = columns_found _ (rowed_end c.loop-i.invariant (search rules))
