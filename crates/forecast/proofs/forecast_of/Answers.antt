-- `forecast_of`: by the answer of the tests.
use mathlib.Core.Path.{refl, sym, ◌∙◌}
use Rattle.forecast.specs.Forecast.{forecast_after, forecast_of}
use Rattle.forecast.proofs.forecast_of.Goals as goal

pub measure_all-requires : goal.measure_all-requires
measure_all-requires c = sym c.test.ensures ∙ c.in-Ok.is

pub returns-in-Ok : goal.returns-in-Ok
unfolding forecast_of
returns-in-Ok c =
    let e = sym c.test.ensures ∙ c.in-Ok.is in
    rw e c.measure_all.ensures

pub returns-in-Err : goal.returns-in-Err
unfolding forecast_of forecast_after
returns-in-Err c =
    let e = sym c.test.ensures ∙ c.in-Err.is in
    rw e refl
