-- `draw`: the window lies on the canvas and has a pixel; the three steps are the definition's.
use Prim.Native.Nat.{ℕ, ◌*◌, ◌≤◌}
use mathlib.Core.Path.{◌≡◌, ap, ◌∙◌, subst}
use native.Mathlib.Omega.{arith}
use lib.ListN.{length}
use Rattle.backdrop.specs.Window.{columns, rows, scale_of, cells, picture_bytes}
use Rattle.backdrop.specs.Picture.{blurred, tinted}
use Rattle.backdrop.specs.Private.{Shown}
use Rattle.backdrop.proofs.Laws.Window.{OnIt, window_on_it, Scale, scale_is, scale_most, cells_some, cells_most}
use Rattle.backdrop.proofs.Laws.Picture.{some_cells, bytes_of, picture_by}
use Rattle.backdrop.proofs.Shrunk.{any_scale}
use Rattle.backdrop.proofs.small.draw.Goals as goal
use Rattle.backdrop.proofs.small.draw.Goals.{After-cells-lh, After-cells-lw, After-scale-k, After-shrink-arg-1, After-struct_known-2-1, After-window-win}

on_it : (c : After-window-win) → let a = c.args in OnIt a.size.w a.size.h c.window-win.result
on_it c = let a = c.args in rw c.window-win.ensures (window_on_it a.size.w a.size.h a.rect a.style a.table.now)

bytes : (c : After-window-win) → let k = scale_of c.args.style.blur in
    picture_bytes c.args.size.w c.args.size.h c.args.rect c.args.style c.args.table.now ≡ 3 * (cells (columns c.window-win.result) k * cells (rows c.window-win.result) k)
bytes c = let a = c.args in bytes_of a.size.w a.size.h a.rect a.style a.table.now c.window-win.ensures

some : (c : After-window-win) → (1 ≤ columns c.window-win.result) × (1 ≤ rows c.window-win.result)
some c =
    some_cells (columns c.window-win.result) (rows c.window-win.result) (scale_is c.args.style.blur) (subst (λ (n : ℕ). 1 ≤ n) (bytes c) c.requires.some)

by : (c : After-scale-k) → Scale c.scale-k.result
by c = rw c.scale-k.ensures (scale_is _)

shown : (c : After-window-win) → Shown (length c.args.px.now) c.args.size.w c.args.size.h c.window-win.result
shown c =
    let p = c.requires.canvas in
    let o = on_it c in
    let m = some c in
    record { size = p.0; narrow = p.1; low = p.2; wide = omega (arith, m.0); tall = omega (arith, m.1); in_width = o.in_width; in_height = o.in_height }

pub shrink-requires : goal.shrink-requires
shrink-requires c =
    record { window = (shown (goal.at.shrink-requires c).After-window-win, any_scale (by (goal.at.shrink-requires c).After-scale-k)); size = rw c.scale-k.ensures (c.requires.size.0 ∙ bytes (goal.at.shrink-requires c).After-window-win) }

-- the cells of a row and the rows
wide : (c : After-cells-lw) → c.cells-lw.result ≡ cells (columns c.window-win.result) (scale_of c.args.style.blur)
wide c = c.cells-lw.ensures ∙ ap (cells (columns c.window-win.result)) c.scale-k.ensures

tall : (c : After-cells-lh) → c.cells-lh.result ≡ cells (rows c.window-win.result) (scale_of c.args.style.blur)
tall c = c.cells-lh.ensures ∙ ap (cells (rows c.window-win.result)) c.scale-k.ensures

all : (c : After-cells-lh) → let a = c.args in picture_bytes a.size.w a.size.h a.rect a.style a.table.now ≡ 3 * (c.cells-lw.result * c.cells-lh.result)
all c = rw (wide (record { before = c.before.before.before; type_inv = record { b = c.slice_known-2-1.given; a = c.slice_known-1.given; px = c.shared_slice_known-1.given } }), tall c) (bytes (record { before = c.before.before.before.before.before.before; type_inv = record { b = c.slice_known-2-1.given; a = c.slice_known-1.given; px = c.shared_slice_known-1.given } }))

sides : (c : After-cells-lh) → (1 ≤ c.cells-lw.result) × (c.cells-lw.result ≤ 4096) × (1 ≤ c.cells-lh.result) × (c.cells-lh.result ≤ 4096)
sides c =
    let o = on_it (record { before = c.before.before.before.before.before.before; type_inv = record { b = c.slice_known-2-1.given; a = c.slice_known-1.given; px = c.shared_slice_known-1.given } }) in
    let m = some (record { before = c.before.before.before.before.before.before; type_inv = record { b = c.slice_known-2-1.given; a = c.slice_known-1.given; px = c.shared_slice_known-1.given } }) in
    let k = scale_is c.args.style.blur in
    rw (wide (record { before = c.before.before.before; type_inv = record { b = c.slice_known-2-1.given; a = c.slice_known-1.given; px = c.shared_slice_known-1.given } }), tall c) (
      cells_some (columns c.window-win.result) k m.0,
      omega (arith, cells_most (columns c.window-win.result) k, o.in_width, c.requires.canvas),
      cells_some (rows c.window-win.result) k m.1,
      omega (arith, cells_most (rows c.window-win.result) k, o.in_height, c.requires.canvas),
    )

pub blur-requires : goal.blur-requires
blur-requires c =
    let e = all (goal.at.blur-requires c).After-cells-lh in record { sides = sides (goal.at.blur-requires c).After-cells-lh; size = (c.shrink.auto.out ∙ c.requires.size.0 ∙ e, c.requires.size.1 ∙ e) }

pub tint_cells-requires : goal.tint_cells-requires
tint_cells-requires c = omega (arith, c.blur.auto.a ∙ c.shrink.auto.out ∙ c.requires.size.0 ∙ all (goal.at.tint_cells-requires c).After-cells-lh)

pub returns : goal.returns
returns c =
    let a = c.args in
    c.tint_cells.ensures
    ∙ ap (tinted a.style.saturation a.style.tint)
    (c.blur.ensures
    ∙ ap (blurred c.cells-lw.result c.cells-lh.result c.sigma.result) c.shrink.ensures
    ∙ rw (wide (goal.at.returns c).After-cells-lw, tall (goal.at.returns c).After-cells-lh, c.sigma.ensures, c.scale-k.ensures))
    ∙ picture_by a.size.w a.size.h a.rect a.style a.table.now a.px.now c.window-win.ensures

pub overflow_sub-win : goal.overflow_sub-win
overflow_sub-win c = (on_it (goal.at.overflow_sub-win c).After-window-win).across

pub overflow_sub-win-2 : goal.overflow_sub-win-2
overflow_sub-win-2 c = (on_it (goal.at.overflow_sub-win-2 c).After-window-win).down

pub sigma-requires : goal.sigma-requires
sigma-requires c = scale_most (by (goal.at.sigma-requires c).After-scale-k)
