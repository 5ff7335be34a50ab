-- `color::dim_pix` meets its contract: to dim is to mix with black.
use Rattle.std.proofs.Common.{sym, ◌∙◌}
use Rattle.color.proofs.Laws.{dim_pix_none, dim_pix_mixed}
use Rattle.color.proofs.dim_pix.Goals as goal

pub returns-then-dim-eq0 : goal.returns-then-dim-eq0
returns-then-dim-eq0 c = rw c.if-dim-eq0.true (sym (dim_pix_none c.args.p))

pub returns : goal.returns
returns c =
    let x = c.args in
    c.mix_pix.ensures ∙ sym (dim_pix_mixed x.p x.dim c.if-dim-eq0.false)
