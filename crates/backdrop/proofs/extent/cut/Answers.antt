-- `cut`: the definition's two tests.
use Prim.Native.Nat.{ℕ, ◌≤◌, ◌<◌, max}
use mathlib.Core.Path.{◌≡◌, ap, ◌∙◌}
use native.Mathlib.Omega.{arith}
use borrow.Author.Tests.{le-leb, lt-leb}
use Rattle.geom.specs.Geom.{is_empty}
use Rattle.canvas.specs.declared.Area.{Area}
use Rattle.backdrop.specs.Window.{area_of}
use Rattle.backdrop.proofs.extent.cut.Goals as goal
use Rattle.backdrop.proofs.extent.cut.Goals.{then-x1-x0-via-then-x1-x0, then-x1-x0-via-else-x1-x0+then-y1-y0}

none : (a : Area) → (a.x0 ≡ 0) × ((a.y0 ≡ 0) × ((a.x1 ≡ 0) × (a.y1 ≡ 0))) → a ≡ record { x0 = 0; y0 = 0; x1 = 0; y1 = 0 }
none a e = λ i. record { x0 = e.0 i; y0 = e.1.0 i; x1 = e.1.1.0 i; y1 = e.1.1.1 i }

pub returns-then-x1-x0 : goal.returns-then-x1-x0
unfolding area_of is_empty
returns-then-x1-x0 c =
    let a = c.args in
    elim c.then-x1-x0.branch [
      | then-x1-x0-via-then-x1-x0 w ↦ let e : max a.x1 a.x0 ≤ a.x0 = omega (arith, w.if-x1-x0.true) in none c.default.result c.default.ensures ∙ simp (le-leb _ _ e)
      | then-x1-x0-via-else-x1-x0+then-y1-y0 w ↦ let e : max a.y1 a.y0 ≤ a.y0 = omega (arith, w.if-y1-y0.true) in let f : a.x0 < max a.x1 a.x0 = omega (arith, w.if-x1-x0.false) in none c.default.result c.default.ensures ∙ simp (lt-leb _ _ f, le-leb _ _ e)
    ]

pub returns : goal.returns
unfolding area_of is_empty
returns c =
    let a = c.args in
    let e : a.y0 < max a.y1 a.y0 = omega (arith, c.if-y1-y0.false) in
    let f : a.x0 < max a.x1 a.x0 = omega (arith, c.if-x1-x0.false) in
    let s : a.x1 ≡ max a.x1 a.x0 = omega (arith, c.if-x1-x0.false) in
    let t : a.y1 ≡ max a.y1 a.y0 = omega (arith, c.if-y1-y0.false) in
    simp (lt-leb _ _ f, lt-leb _ _ e) (ap (λ (u : ℕ). record { x0 = a.x0; y0 = a.y0; x1 = u; y1 = a.y1 }) s ∙ ap (λ (u : ℕ). record { x0 = a.x0; y0 = a.y0; x1 = max a.x1 a.x0; y1 = u }) t)
