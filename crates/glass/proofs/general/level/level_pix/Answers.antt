-- `level_pix`: by the nearest side, and by the distance from the edge.
use Prim.Native.Nat.{◌*◌, ◌/◌, ◌<◌}
use mathlib.Core.Path.{◌≡◌, sym, ◌∙◌}
use mathlib.Core.Bool.{true}
use native.Mathlib.Omega.{arith}
use Rattle.panel.specs.Private.{col_past, row_past, level, on_level}
use Rattle.glass.proofs.Sizes.{place_in, edge_row_in}
use Rattle.glass.proofs.SoftRow.{level_out, level_is_edge}
use Rattle.glass.proofs.general.level.level_pix.Goals as goal
use Rattle.glass.proofs.general.level.level_pix.Goals.{After-level_place-fx, Else-not-level}

-- the pixel is level
on : (c : Else-not-level) → let a = c.args in on_level (col_past a.view.p a.x) (row_past a.view.p a.y) ≡ true
on c = sym c.is_level-level.ensures ∙ c.if-not-level.false

pub returns-then-v : goal.returns-then-v
returns-then-v c =
    let a = c.args in
    (level_out a.view.p a.view.table.now a.view.lo.now a.x a.y a.q c.requires.shared_by_row.0 (on (goal.at.returns-then-v c).Else-not-level) c.if-v.true, c.requires.in_picture, c.requires.shared_by_row.1)

-- the column lies in the picture
within : (c : After-level_place-fx) → c.level_place-fx.result / 256 < c.args.view.p.lw
within c =
    let p = c.args.view.p in
    let low : c.level_place-fx.result < p.lw * 256 = rw c.level_place-fx.ensures (place_in p.k p.lw _ c.args.view.sized.wide) in
    omega arith

pub beside-now-requires : goal.beside-now-requires
beside-now-requires c =
    let a = c.args in record { in_picture = (omega (arith, c.requires.shared_by_row.0.fy, edge_row_in a.view.p a.view.table.now (level a.view.p a.y) a.y c.args.view.sized.tall), within c, c.requires.in_picture); kept = c.requires.shared_by_row.1 }

pub returns : goal.returns
returns c =
    let a = c.args in (
      level_is_edge a.view.p a.view.table.now a.view.lo.now a.x a.y a.q c.requires.shared_by_row.0 (on (goal.at.returns c).Else-not-level) c.if-v.false c.level_place-fx.ensures c.beside-now.ensures c.between.ensures c.lit-c.ensures c.laid-o.ensures,
      within (goal.at.returns c).After-level_place-fx,
      c.beside-now.ensures,
    )

pub returns-then-not-level : goal.returns-then-not-level
returns-then-not-level c = (c.edge_pix-o.ensures, c.requires.in_picture, c.requires.shared_by_row.1)

pub between-requires : goal.between-requires
between-requires c = let k = c.beside-now.ensures in (k.left.small, k.right.small, omega arith)
