-- `row_inner`: a solid colour and a gradient down the rows are one colour all along the row; another gradient goes from
-- its first colour to its second.
use Rattle.std.proofs.Common.{◌≡◌, ◌∙◌, sym, subst}
use mathlib.Core.Logic.{inl, inr}
use Rattle.fill.specs.declared.Paint.{Paint}
use Rattle.fill.specs.Private.{Between}
use Rattle.edge.specs.Edge.{centre}
use Rattle.fill.proofs.Laws.{level, solid_level, vgrad_level, linear_between, radial_between}
use Rattle.fill.proofs.row_inner.Goals as goal

pub returns-in-Solid : goal.returns-in-Solid
returns-in-Solid c =
    let a = c.args in
    c.row_color.ensures
    ∙ level a.paint _ a.x a.y a.dst.now (λ v. solid_level (centre v) (centre a.y) c.in-Solid.is)

pub returns-in-VGrad : goal.returns-in-VGrad
returns-in-VGrad c =
    let a = c.args in
    rw (c.mix.ensures, c.vgrad.ensures, c.centre.ensures) at c.row_color-in-VGrad.ensures
    ∙ level a.paint _ a.x a.y a.dst.now (λ v. vgrad_level (centre v) (centre a.y) c.in-VGrad.is)

pub invariant_of-row_along : goal.invariant_of-row_along
invariant_of-row_along c =
    let k = c.in-Linear in
    let of = λ (p : Paint) (e : k.paint ≡ p) (b : Between p k.c0 k.c1). subst (λ (q : Paint). Between q k.c0 k.c1) (sym e) b in
    elim k.is [
      | inl h ↦ record { between = of _ (k.paint-is ∙ h.2) linear_between }
      | inr h ↦ record { between = of _ (k.paint-is ∙ h.2) radial_between }
    ]
