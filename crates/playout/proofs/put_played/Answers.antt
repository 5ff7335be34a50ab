-- `put_played`: play's answer, with the canvas that it leaves.
use Rattle.std.proofs.Common.{sym, ◌∙◌}
use Rattle.playout.specs.Printed.{played}
use Rattle.playout.proofs.Laws.{same, told_count, told_refused}
use Rattle.playout.proofs.put_played.Goals as goal

pub returns-in-Ok : goal.returns-in-Ok
unfolding played
returns-in-Ok c =
    same (told_count _ _ _ _ (sym c.play.ensures.answer ∙ c.in-Ok.is) c.play.ensures.canvas) c.put_layers.ensures

pub returns-in-Err : goal.returns-in-Err
unfolding played
returns-in-Err c =
    same (told_refused _ _ _ _ (sym c.play.ensures.answer ∙ c.in-Err.is) c.play.ensures.canvas) c.put_refused.ensures
