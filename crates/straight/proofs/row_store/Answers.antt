-- `row_store`: with nothing darkened it is a copy, and what is darkened has no top byte to lose.
use Rattle.std.proofs.Common.{rules, ◌∙◌, get_or}
use Rattle.color.specs.Color.{dim_pix}
use Rattle.canvas.specs.Rows.{copied}
use Rattle.straight.proofs.Rows.{plain, darkened}
use Rattle.straight.proofs.row_store.Goals as goal

pub returns-then-dim-eq0 : goal.returns-then-dim-eq0
returns-then-dim-eq0 c =
    c.row_copy.ensures ∙ plain (λ t p. copied t) c.args.row.now c.args.dst.now c.args.dim c.requires c.if-dim-eq0.true

pub returns-else-dim-eq0 : goal.returns-else-dim-eq0
returns-else-dim-eq0 c =
    let a = c.args in
    c.map_pixels.ensures (λ i p. dim_pix (get_or a.row.now i 0) a.dim) (λ i p r h k. search rules) ∙ darkened a.row.now a.dst.now a.dim c.if-dim-eq0.false
