-- `outer_row`: in either kind of row the alpha is the one at the pixel's distance.
use Prim.Native.Nat.{ℕ, ◌+◌}
use mathlib.Core.Path.{ap, ◌∙◌}
use lib.Ieee.{Float}
use lib.ListN.{get_or}
use Rattle.canvas.proofs.Laws.Rows.{map_row_same}
use Rattle.shadow.specs.Shadow.{alpha_of, tinted, row_turn}
use Rattle.shadow.proofs.Rows.{alpha_side, sd_turn}
use Rattle.shadow.proofs.outer_row.Goals as goal

pub returns-then-qy : goal.returns-then-qy
unfolding row_turn
returns-then-qy c =
    let s = c.args in
    let k = s.caster.now.shadow in
    c.side_row.ensures
    ∙ map_row_same _ _ _ (λ i h.
    ap (λ (a : ℕ). tinted k.color a (get_or s.dst.now i 0)) (alpha_side k.r s.y c.requires.columns c.row_axis-qy.ensures c.row_sd.ensures c.if-qy.true i h))

pub returns-else-qy : goal.returns-else-qy
unfolding row_turn
returns-else-qy c =
    let s = c.args in
    let k = s.caster.now.shadow in
    c.turn_row.ensures
    ∙ map_row_same _ _ _ (λ i h. ap (λ (d : Float). tinted k.color (alpha_of s.caster.now.table k.blur d) (get_or s.dst.now i 0))
    (sd_turn s.caster.now.rect k.r s.y c.row_axis-qy.ensures c.if-qy.false (s.x + i)))
