-- What `forecast_of` answers, and what `write` leaves.
use mathlib.Core.Path.{ap, ◌∙◌}
use Rattle.answer.specs.Answer.{packed}
use Rattle.forecast.specs.declared.Forecast.{Forecast}
use Rattle.forecast.specs.Forecast.{boxes_after, totals_after}
use Rattle.tiglostrema.proofs.tiglostrema_forecast.Goals as goal

pub returns : goal.returns
returns c =
    let a = c.args in
    let show = c.show_of.ensures in
    let e = rw (show.rundown, show.size, show.table) at c.forecast_of-f.ensures in
    record {
      answer = c.pack.ensures ∙ ap (λ (f : Forecast). packed f.answer) e;
      boxes = c.write.ensures.boxes ∙ ap (λ (f : Forecast). boxes_after f a.boxes.now) e;
      totals = c.write.ensures.totals ∙ ap (λ (f : Forecast). totals_after f a.totals.now) e;
    }
