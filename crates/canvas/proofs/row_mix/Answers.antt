-- `row_mix`: from 256 parts on it is a copy; below that, the mix from the other end.
use Prim.Native.Nat.{◌≤◌}
use mathlib.Core.Path.{sym, ◌∙◌}
use lib.ListN.{get_or}
use native.Mathlib.Omega.{arith}
use Rattle.color.proofs.Laws.{mix_pix_end, mix_pix_back}
use Rattle.canvas.proofs.Laws.Rows.{map_row_below}
use Rattle.canvas.proofs.row_mix.Goals as goal

pub returns-then-t256-ge256 : goal.returns-then-t256-ge256
returns-then-t256-ge256 c =
    let a = c.args in
    c.row_copy.ensures ∙ map_row_below _ _ _ a.dst.now (λ i h g. sym (mix_pix_end (get_or a.dst.now i 0) (get_or a.src.now i 0) a.t256 c.if-t256-ge256.true))

pub returns-else-t256-ge256 : goal.returns-else-t256-ge256
returns-else-t256-ge256 c =
    let a = c.args in
    let m : a.t256 ≤ 256 = omega (arith, c.if-t256-ge256.false) in
    c.row_back.ensures ∙ map_row_below _ _ _ a.dst.now (λ i h g. sym (mix_pix_back (get_or a.dst.now i 0) (get_or a.src.now i 0) a.t256 m))
