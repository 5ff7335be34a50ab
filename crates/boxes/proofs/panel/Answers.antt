-- `panel`: the definition's test.
use mathlib.Core.Path.{refl, ◌∙◌}
use Rattle.boxes.proofs.panel.Goals as goal
use Rattle.boxes.proofs.panel.Goals.{then-rect-via-then-rect, then-rect-via-else-rect+then-rect-2}

pub returns-then-rect : goal.returns-then-rect
returns-then-rect c =
    c.new.ensures
    ∙ elim c.then-rect.branch [
      | then-rect-via-then-rect w ↦ rw w.if-rect.true refl
      | then-rect-via-else-rect+then-rect-2 w ↦ rw (w.if-rect.false, w.if-rect-2.true) refl
    ]

pub returns : goal.returns
returns c = c.outer_pixels.ensures ∙ rw (c.if-rect.false, c.if-rect-2.false) refl
