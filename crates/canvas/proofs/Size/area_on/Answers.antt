-- `area_on`: the definition's two tests; where both pass, the box lies on the canvas, so its sides are natural numbers.
use mathlib.Core.Path.{◌≡◌, sym, ap, ◌∙◌, subst}
use mathlib.Core.Bool.{true}
use Prim.Native.Nat.{ℕ}
use native.Mathlib.Omega.{arith}
use mir.Syntax.{w32}
use mir.Val.{SFits}
use mir.Facts.{to_z-of_z}
use lib.IntN.{pos}
use Rattle.geom.specs.Geom.{intersect, is_empty}
use Rattle.canvas.specs.declared.Area.{Area}
use Rattle.canvas.specs.Canvas.{is_canvas, box_on, area_on}
use Rattle.canvas.proofs.Laws.Area.{canvas_is, box_cut, Within, area_within}
use Rattle.canvas.proofs.Size.area_on.Goals as goal
use Rattle.canvas.proofs.Size.area_on.Goals.{After-intersect-b}

-- the canvas's sides fit an i32
wide : (w h n : ℕ) → is_canvas w h n ≡ true → SFits w32 (pos w)
wide w h n t = record { sfits = omega (arith, (canvas_is w h n t).narrow) }

tall : (w h n : ℕ) → is_canvas w h n ≡ true → SFits w32 (pos h)
tall w h n t = record { sfits = omega (arith, (canvas_is w h n t).low) }

-- what the code intersects is the layer's box
box_here : (c : After-intersect-b) → let a = c.args in is_canvas a.self.w a.self.h a.n ≡ true → c.intersect-b.result ≡ box_on a.self.w a.self.h a.clip a.r
unfolding box_on
box_here c t =
    let corner = rw (to_z-of_z (wide _ _ _ t), to_z-of_z (tall _ _ _ t)) at c.new.ensures in
    c.intersect-b.ensures ∙ ap (intersect c.args.r) (c.intersect.ensures ∙ ap (intersect c.args.clip) corner)

zeros : (a : Area) → (a.x0 ≡ 0) × ((a.y0 ≡ 0) × ((a.x1 ≡ 0) × (a.y1 ≡ 0))) → a ≡ record { x0 = 0; y0 = 0; x1 = 0; y1 = 0 }
zeros a e = λ i. record { x0 = e.0 i; y0 = e.1.0 i; x1 = e.1.1.0 i; y1 = e.1.1.1 i }

pub natural-requires : goal.natural-requires
natural-requires c =
    let a = c.args in
    let t = sym c.is_canvas.ensures ∙ c.if-not-is_canvas.false in
    let here = box_here (goal.at.natural-requires c).After-intersect-b t in
    record { x0_natural = rw (here, (box_cut a.self.w a.self.h a.clip a.r).is) tt; y0_natural = rw (here, (box_cut a.self.w a.self.h a.clip a.r).is) tt; x1_natural = rw (here, (box_cut a.self.w a.self.h a.clip a.r).is) tt; y1_natural = rw (here, (box_cut a.self.w a.self.h a.clip a.r).is) tt }

pub returns-clause-sides : goal.returns-clause-sides
unfolding area_on
returns-clause-sides c =
    let t = sym c.is_canvas.ensures ∙ c.if-not-is_canvas.false in
    let here = box_here (goal.at.returns-clause-sides c).After-intersect-b t in
    let some = ap is_empty (sym here) ∙ sym c.is_empty.ensures ∙ c.if-is_empty.false in
    c.natural.ensures ∙ rw (t, some, here)

pub returns-then-is_empty-clause-sides : goal.returns-then-is_empty-clause-sides
unfolding area_on
returns-then-is_empty-clause-sides c =
    let t = sym c.is_canvas.ensures ∙ c.if-not-is_canvas.false in
    let here = box_here (goal.at.returns-then-is_empty-clause-sides c).After-intersect-b t in
    let none = ap is_empty (sym here) ∙ sym c.is_empty.ensures ∙ c.if-is_empty.true in
    zeros c.default-then-is_empty.result c.default-then-is_empty.ensures ∙ rw (t, none)

pub returns-then-not-is_canvas-clause-sides : goal.returns-then-not-is_canvas-clause-sides
unfolding area_on
returns-then-not-is_canvas-clause-sides c = zeros c.default.result c.default.ensures ∙ rw (sym c.is_canvas.ensures ∙ c.if-not-is_canvas.true)

pub returns-clause-within : goal.returns-clause-within
returns-clause-within c = subst Within (sym (returns-clause-sides c)) (area_within c.args.n c.args.self.w c.args.self.h c.args.clip c.args.r)

pub returns-then-is_empty-clause-within : goal.returns-then-is_empty-clause-within
returns-then-is_empty-clause-within c = subst Within (sym (returns-then-is_empty-clause-sides c)) (area_within c.args.n c.args.self.w c.args.self.h c.args.clip c.args.r)

pub returns-then-not-is_canvas-clause-within : goal.returns-then-not-is_canvas-clause-within
returns-then-not-is_canvas-clause-within c = subst Within (sym (returns-then-not-is_canvas-clause-sides c)) (area_within c.args.n c.args.self.w c.args.self.h c.args.clip c.args.r)

pub overflow_cast-self : goal.overflow_cast-self
overflow_cast-self c = wide _ _ _ (sym c.is_canvas.ensures ∙ c.if-not-is_canvas.false)

pub overflow_cast-self-2 : goal.overflow_cast-self-2
overflow_cast-self-2 c = tall _ _ _ (sym c.is_canvas.ensures ∙ c.if-not-is_canvas.false)
