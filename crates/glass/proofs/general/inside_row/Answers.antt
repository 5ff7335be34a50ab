-- `inside_row`: by the size of a cell.
use Prim.Native.Nat.{◌+◌}
use mathlib.Core.Path.{sym, subst, ◌∙◌}
use lib.Dec.{T}
use Rattle.canvas.proofs.Laws.Rows.{map_row_same}
use Rattle.glass.proofs.SoftRow.{soft_pix}
use Rattle.glass.proofs.general.inside_row.Goals as goal

pub upsampled_row-requires : goal.upsampled_row-requires
upsampled_row-requires c = (c.requires, λ e. absurd (subst T (sym e) tt))

pub returns-else-view-eq1 : goal.returns-else-view-eq1
returns-else-view-eq1 c =
    let a = c.args in
    c.upsampled_row.ensures ∙ map_row_same _ _ a.dst.now (λ i _. soft_pix a.view.p a.view.lo.now (a.x + i) a.y c.if-view-eq1.false)
