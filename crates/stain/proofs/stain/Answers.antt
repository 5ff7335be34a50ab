-- `stain`: the map by the answer.
use mathlib.Core.Path.{sym, ◌∙◌}
use Rattle.answer.proofs.Laws.{handed_on}
use Rattle.stain.proofs.Walk.{map_count, all_blocks, map_refused}
use Rattle.stain.proofs.stain.Goals as goal

pub stain_all-requires : goal.stain_all-requires
stain_all-requires c =
    let a = c.args in
    all_blocks a.show.size.w a.show.size.h a.show.table.now a.show.rundown.now a.s a.map.now _ (sym c.in_ok-count.ensures)

pub returns : goal.returns
returns c =
    let a = c.args in
    let e = sym c.in_ok-count.ensures in
    let f = all_blocks a.show.size.w a.show.size.h a.show.table.now a.show.rundown.now a.s a.map.now _ e in
    record { answer = sym e; map = c.stain_all.ensures ∙ map_count a.show.size.w a.show.size.h a.show.table.now a.show.rundown.now a.s a.map.now _ f }

pub returns-in_err-count : goal.returns-in_err-count
returns-in_err-count c =
    let a = c.args in
    let e = sym c.in_err-count.ensures in
    record { answer = handed_on _ _ c.from_residual.ensures ∙ sym e; map = map_refused a.show.size.w a.show.size.h a.show.table.now a.show.rundown.now a.s a.map.now _ e }
