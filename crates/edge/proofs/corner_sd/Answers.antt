-- `corner_sd`: the definition's three cases, by the tests that led to each.
use Rattle.edge.specs.Edge as Edge
use Rattle.edge.proofs.corner_sd.Goals as goal
use Rattle.edge.proofs.corner_sd.Goals.{else-qx-via-then-qx+else-qy, else-qx-via-else-qx}

pub returns-then-qy : goal.returns-then-qy
unfolding Edge.corner_sd
returns-then-qy c = simp (c.if-qx.true, c.if-qy.true, c.sqrt.ensures)

pub returns-then-qx-qy : goal.returns-then-qx-qy
unfolding Edge.corner_sd
returns-then-qx-qy c =
    elim c.else-qx.branch [
      | else-qx-via-then-qx+else-qy w ↦ simp (w.if-qx.true, w.if-qy.false, c.if-qx-qy.true)
      | else-qx-via-else-qx w ↦ simp (w.if-qx.false, c.if-qx-qy.true)
    ]

pub returns-else-qx-qy : goal.returns-else-qx-qy
unfolding Edge.corner_sd
returns-else-qx-qy c =
    elim c.else-qx.branch [
      | else-qx-via-then-qx+else-qy w ↦ simp (w.if-qx.true, w.if-qy.false, c.if-qx-qy.false)
      | else-qx-via-else-qx w ↦ simp (w.if-qx.false, c.if-qx-qy.false)
    ]
