-- `full_cols`: what `all` answers of the columns.
use Rattle.std.proofs.Common.{◌≡◌, true, ◌-◌, refl, rules}
use Rattle.std.proofs.lemmas.Iterator.{cases_from_all, YieldsList-from_range}
use Rattle.std.proofs.lemmas.List.FromFn.{length-range_with_len}
use Rattle.fill.specs.Private.{full_col}
use Rattle.fill.proofs.Laws.{full_all}
use Rattle.fill.proofs.full_cols.Goals as goal

pub returns : goal.returns
returns c =
    let a = c.args in
    full_all a.shape.rect a.shape.r a.x0 a.x1 _ _ c.all.result
    (cases_from_all _ _ _ (λ x. full_col a.shape.rect a.shape.r x ≡ true) (λ x. Unit {0}) c.all.ensures.ran (YieldsList-from_range a.x0 a.x1 (a.x1 - a.x0) refl refl) (λ x q k. search rules) (λ x q k. tt))
    (length-range_with_len a.x0 (a.x1 - a.x0))
