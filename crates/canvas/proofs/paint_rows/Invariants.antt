-- `paint_rows`: the loop's invariant is `Boxing` at every rule that says what f makes of a row.
use Rattle.std.proofs.Common.{◌≡◌, ℕ, ◌+◌, min, length}
use Rattle.canvas.specs.Rows.{map_row}
use Rattle.canvas.specs.Canvas.{RowOf}
use Rattle.canvas.proofs.Laws.Box.{Boxing}
use Rattle.canvas.proofs.Laws.Area.{IsCanvas}
use Rattle.canvas.proofs.paint_rows.Given as goal

abbrev pub invariant-loop-y : goal.invariant-loop-y
invariant-loop-y g l =
    IsCanvas l.size.w l.size.h (length l.initial.px)
    × (l.x1 ≡ min l.area.x1 l.size.w)
    × (l.y1 ≡ min l.area.y1 l.size.h)
    × ((rule : ℕ → ℕ → ℕ → ℕ) → ((y : ℕ) (row row' : _) → RowOf l.size.w l.size.h l.area y (length row.now) → goal.F-post g l.f y row tt row' → row'.now ≡ map_row (λ i p. rule (l.area.x0 + i) y p) row.now)
    → Boxing l.size.w l.size.h l.area.x0 l.area.y0 l.x1 l.y1 rule l.initial.px l.px l.y)
