-- `row_fade`: with nothing darkened it is a mix.
use mathlib.Core.Path.{◌∙◌}
use Rattle.color.specs.Color.{mix_pix}
use Rattle.straight.proofs.Rows.{plain}
use Rattle.straight.proofs.row_fade.Goals as goal

pub returns-then-dim-eq0 : goal.returns-then-dim-eq0
returns-then-dim-eq0 c =
    c.row_mix.ensures ∙ plain (λ s p. mix_pix p s c.args.t256) c.args.row.now c.args.dst.now c.args.dim c.requires c.if-dim-eq0.true
