-- `blur_row`: the three parts of a row are the row.
use Prim.Native.Nat.{ℕ, ◌≤◌, ◌<◌, ◌+◌, ◌*◌, ◌-◌, ◌/◌, ◌%◌}
use mathlib.Core.Path.{◌≡◌, ◌∙◌, ap}
use native.Mathlib.Omega.{arith}
use lib.ListN.{length}
use Rattle.boxblur.specs.declared.Axis.TheVariants.{Rows}
use Rattle.boxblur.specs.Private.{scaled_sums, new_byte, span}
use Rattle.boxblur.proofs.Pass.{in_line, span_length, span_whole, span_three}
use Rattle.boxblur.proofs.rows.blur_row.Goals as goal
use Rattle.boxblur.proofs.rows.blur_row.Goals.{After-edge_cells, After-edge_cells-t, After-first_scaled-s}

-- where the inner cells end
end : (w r : ℕ) → 2 * r + 1 < w → (r ≤ r + (w - 2 * r - 1) / 4 * 4) × ((r + (w - 2 * r - 1) / 4 * 4 + r < w) × ((r + (w - 2 * r - 1) / 4 * 4 - r) % 4 ≡ 0))
end w r h = (omega arith, (omega arith, omega arith))

pub first_scaled-s-requires : goal.first_scaled-s-requires
first_scaled-s-requires c =
    (rw c.offset.ensures.0 (in_line c.args.pass.blur _ c.args.pass.fits 0 c.args.y c.args.pass.fits.wide c.requires.1 Rows), c.args.pass.fits.inverse)

first : (c : After-first_scaled-s) → let a = c.args in c.first_scaled-s.result ≡ scaled_sums a.pass.src.now ((a.y * a.pass.blur.w + 0) * 3) 3 a.pass.blur.w a.pass.blur.r 0
first c = let a = c.args in c.first_scaled-s.ensures ∙ ap (λ (k : ℕ). scaled_sums a.pass.src.now k 3 a.pass.blur.w a.pass.blur.r 0) c.offset.ensures.0

pub edge_cells-t-requires : goal.edge_cells-t-requires
edge_cells-t-requires c =
    let p = c.requires in
    (p.0, (first (goal.at.edge_cells-t-requires c).After-first_scaled-s, (p.1, (omega arith, omega (arith, c.if-blur.true)))))

-- the slice after the left end, and after the inner cells
left_length : (c : After-edge_cells-t) → length c.edge_cells-t.new.dst ≡ length c.args.dst.now
left_length c = let a = c.args in ap length c.edge_cells-t.ensures.1 ∙ span_length (new_byte Rows a.pass.src.now a.pass.blur) a.pass.blur.w a.y 0 (a.pass.blur.r - 0) a.dst.now

pub inner_cells-u-requires : goal.inner_cells-u-requires
inner_cells-u-requires c =
    let a = c.args in
    let p = c.requires in
    let e = c.edge_cells-t.ensures in
    let z = end a.pass.blur.w a.pass.blur.r c.if-blur.true in
    (left_length (goal.at.inner_cells-u-requires c).After-edge_cells-t ∙ p.0, (e.0, (p.1, (z.0, (omega arith, (z.1.0, z.1.1))))))

pub edge_cells-requires : goal.edge_cells-requires
edge_cells-requires c =
    let a = c.args in
    let p = c.requires in
    let i = c.inner_cells-u.ensures in
    let z = end a.pass.blur.w a.pass.blur.r c.if-blur.true in
    (ap length i.1 ∙ span_length (new_byte Rows a.pass.src.now a.pass.blur) a.pass.blur.w a.y a.pass.blur.r _ _ ∙ left_length (goal.at.edge_cells-requires c).After-edge_cells-t ∙ p.0, (i.0, (p.1, (omega (arith, z), omega arith))))

pub edge_cells-requires-else-blur : goal.edge_cells-requires-else-blur
edge_cells-requires-else-blur c =
    let p = c.requires in
    (p.0, (first (goal.at.edge_cells-requires-else-blur c).After-first_scaled-s, (p.1, (omega arith, omega arith))))

whole : (c : After-edge_cells) → let a = c.args in c.edge_cells.new.dst ≡ span (new_byte Rows a.pass.src.now a.pass.blur) a.pass.blur.w a.y 0 a.pass.blur.w a.dst.now
whole c =
    let a = c.args in
    let z = end a.pass.blur.w a.pass.blur.r c.if-blur.true in
    span_three (new_byte Rows a.pass.src.now a.pass.blur) a.pass.blur.w a.y a.pass.blur.r (a.pass.blur.r + (a.pass.blur.w - 2 * a.pass.blur.r - 1) / 4 * 4) a.dst.now _ _ _ z.0 (omega (arith, z))
    c.edge_cells-t.ensures.1 c.inner_cells-u.ensures.1 c.edge_cells.ensures.1

pub shape_of-dst-then-blur : goal.shape_of-dst-then-blur
shape_of-dst-then-blur c =
    let a = c.args in
    ap length (whole (goal.at.shape_of-dst-then-blur c).After-edge_cells) ∙ span_length (new_byte Rows a.pass.src.now a.pass.blur) a.pass.blur.w a.y 0 a.pass.blur.w a.dst.now

pub shape_of-dst-else-blur : goal.shape_of-dst-else-blur
shape_of-dst-else-blur c =
    let a = c.args in
    ap length c.edge_cells-else-blur.ensures.1 ∙ span_length (new_byte Rows a.pass.src.now a.pass.blur) a.pass.blur.w a.y 0 (a.pass.blur.w - 0) a.dst.now

pub returns-else-blur : goal.returns-else-blur
returns-else-blur c =
    let a = c.args in
    span_whole (new_byte Rows a.pass.src.now a.pass.blur) a.pass.blur.w a.y a.dst.now _ c.edge_cells-else-blur.ensures.1

pub offset-requires : goal.offset-requires
offset-requires c = let p = c.requires in (c.args.pass.fits.narrow, (omega arith, omega (arith, c.args.pass.fits.low, p.1)))

pub overflow_mul-blur : goal.overflow_mul-blur
overflow_mul-blur c = omega (arith, c.args.pass.fits.radius)

pub overflow_add-blur : goal.overflow_add-blur
overflow_add-blur c = omega (arith, c.args.pass.fits.radius)

pub overflow_mul-to : goal.overflow_mul-to
overflow_mul-to c = omega (arith, c.args.pass.fits.radius)

pub overflow_sub-to : goal.overflow_sub-to
overflow_sub-to c = omega (arith, c.if-blur.true)

pub overflow_sub-to-then-blur : goal.overflow_sub-to-then-blur
overflow_sub-to-then-blur c = omega (arith, c.if-blur.true)

pub overflow_mul-to-then-blur : goal.overflow_mul-to-then-blur
overflow_mul-to-then-blur c = omega (arith, c.args.pass.fits.narrow)

pub overflow_add-to : goal.overflow_add-to
overflow_add-to c = omega (arith, c.args.pass.fits.narrow, c.if-blur.true)

pub returns-then-blur : goal.returns-then-blur
returns-then-blur c = whole (goal.at.returns-then-blur c).After-edge_cells
