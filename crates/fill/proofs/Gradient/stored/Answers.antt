-- `stored`: a place that is no NaN has an opaque colour.
use mathlib.Core.Path.{sym, ap, ◌∙◌}
use Rattle.color.specs.declared.Color.{Color}
use Rattle.color.specs.Color.{pix}
use Rattle.fill.proofs.Laws.{stored, kept}
use Rattle.fill.proofs.Gradient.stored.Goals as goal

pub returns-then-is_nan : goal.returns-then-is_nan
returns-then-is_nan c =
    let a = c.args in
    kept a.self.c0 a.self.c1 a.t a.p c.requires.0 c.requires.1 (sym c.is_nan.ensures.value ∙ c.if-is_nan.true)

pub returns-else-is_nan : goal.returns-else-is_nan
returns-else-is_nan c =
    let a = c.args in
    c.pix-q.ensures
    ∙ ap (λ (k : Color). pix k) c.mix-c.ensures
    ∙ stored a.self.c0 a.self.c1 a.t a.p c.requires.0 c.requires.1 (sym c.is_nan.ensures.value ∙ c.if-is_nan.false)
