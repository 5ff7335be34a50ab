-- `paint`: no picture, a flat panel, or any other.
use mathlib.Core.Path.{sym, ◌∙◌}
use Rattle.canvas.specs.Canvas.{area_box}
use Rattle.glass.specs.Flat.{flat_pix}
use Rattle.glass.specs.General.{general_pix}
use Rattle.glass.specs.Glass.{panel_pix}
use Rattle.glass.proofs.Entry.{flat_sizes, stays, same_rule, no_column, no_row, flat_way, general_way}
use Rattle.glass.proofs.general.entry.paint.Goals as goal
use Rattle.glass.proofs.general.entry.paint.Goals.{then-p-eq0-via-then-p-eq0, then-p-eq0-via-else-p-eq0+then-p-eq0-2}

pub returns-then-p-eq0 : goal.returns-then-p-eq0
returns-then-p-eq0 c =
    let a = c.args in
    stays a.size.w a.size.h (area_box a.area) (panel_pix a.p a.spec a.table.now a.lo.now) a.px.now (elim c.then-p-eq0.branch [
      | then-p-eq0-via-then-p-eq0 w ↦ no_column a.p a.spec a.table.now a.lo.now w.if-p-eq0.true
      | then-p-eq0-via-else-p-eq0+then-p-eq0-2 w ↦ no_row a.p a.spec a.table.now a.lo.now w.if-p-eq0.false w.if-p-eq0-2.true
    ])

pub flat_rows-requires : goal.flat_rows-requires
flat_rows-requires c =
    let two = flat_sizes c.args.p c.args.spec (sym c.is_flat.ensures ∙ c.if-is_flat.true) in (two.0, two.1)

pub returns-then-is_flat : goal.returns-then-is_flat
returns-then-is_flat c =
    let a = c.args in
    c.flat_rows.ensures
    ∙ same_rule a.size.w a.size.h (area_box a.area) (λ x y q. flat_pix a.p a.lo.now x y) (panel_pix a.p a.spec a.table.now a.lo.now) a.px.now
    (flat_way a.p a.spec a.table.now a.lo.now c.if-p-eq0.false c.if-p-eq0-2.false (sym c.is_flat.ensures ∙ c.if-is_flat.true))

pub returns-else-is_flat : goal.returns-else-is_flat
returns-else-is_flat c =
    let a = c.args in
    c.general_rows.ensures
    ∙ same_rule a.size.w a.size.h (area_box a.area) (general_pix a.p a.table.now a.lo.now) (panel_pix a.p a.spec a.table.now a.lo.now) a.px.now
    (general_way a.p a.spec a.table.now a.lo.now c.if-p-eq0.false c.if-p-eq0-2.false (sym c.is_flat.ensures ∙ c.if-is_flat.false))
