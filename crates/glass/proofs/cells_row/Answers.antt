-- `cells_row`: one map after another.
use Prim.Native.Nat.{ℕ, ◌+◌, ◌*◌, ◌<◌}
use mathlib.Core.Path.{ap, ◌∙◌}
use native.Mathlib.Omega.{arith}
use lib.ListN.{get_or}
use Rattle.canvas.specs.Rows.{map_row}
use Rattle.canvas.proofs.Laws.Rows.{map_row_then}
use Rattle.panel.specs.Panel.{lit}
use Rattle.glass.specs.Places.{pix_at}
use Rattle.glass.proofs.Sizes.{clear_map}
use Rattle.glass.proofs.cells_row.Goals as goal

pub returns : goal.returns
returns c =
    let a = c.args in
    c.lit_clear.ensures ∙ ap (map_row (λ i q. lit a.p q)) c.copy_cells.ensures ∙ map_row_then (λ i q. pix_at a.lo.now (a.at + i * 3)) (λ i q. lit a.p q) a.dst.now

pub lit_clear-requires : goal.lit_clear-requires
lit_clear-requires c =
    let a = c.args in
    let byte : (i : ℕ) → get_or a.lo.now i 0 < 256 = λ i. omega (arith, c.shared_slice_known-1.given i) in
    clear_map (λ i q. pix_at a.lo.now (a.at + i * 3)) a.dst.now c.copy_cells.ensures
    (λ i q _. let o : ℕ = a.at + i * 3 in omega (arith, byte o, byte (o + 1), byte (o + 2)))
