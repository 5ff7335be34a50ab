-- A recorded layer: which words its painter takes.
use Rattle.std.specs.Prelude.{Bool, cond, not, List, ℕ, eqb, replicate}
use Rattle.canvas.specs.Rows.{map_row}
use Rattle.canvas.specs.Canvas.{painted_on}
use Rattle.fill.specs.declared.Paint.{Paint}
use Rattle.fill.specs.Fill.{fill_rule}
use Rattle.stroke.specs.Stroke.{stroke_rule}
use Rattle.shadow.specs.Shadow.{shadow_rule}
use Rattle.c_shapes.specs.In.{color_of, paint_of}
use Rattle.replay_shapes.specs.declared.Painter.{Painter}
use Rattle.replay_shapes.specs.declared.Painter.TheVariants.{Fill, Stroke, Shadow}
use Rattle.records.specs.Record.{word, real, clip, rect, pixel, recorded}

unfoldable pub paint : List ℕ → Paint
paint rec = paint_of (word rec 12) (word rec 13) (word rec 14) (real rec 15) (real rec 16) (real rec 17) (real rec 18)

-- what each painter makes of the canvas px
unfoldable pub fill : List ℕ → List ℕ → List ℕ
fill rec px =
    let w = word rec 1 in
    let h = word rec 2 in
    painted_on w h (fill_rule w h (clip rec) (rect rec) (real rec 11) (paint rec)) px

unfoldable pub stroke : List ℕ → List ℕ → List ℕ
stroke rec px =
    let w = word rec 1 in
    let h = word rec 2 in
    painted_on w h (stroke_rule w h (clip rec) (rect rec) (real rec 11) (real rec 19) (color_of (word rec 13))) px

unfoldable pub shadow : List ℕ → List ℕ → List ℕ
shadow rec px =
    let w = word rec 1 in
    let h = word rec 2 in
    painted_on w h (shadow_rule w h (clip rec) (rect rec) (record { r = real rec 11; blur = real rec 19; color = color_of (word rec 13); skip_inside = not (eqb (word rec 20) 0) })) px

-- by the painter's number: 0 fill, 1 stroke, else shadow
abbrev pub painter : ℕ → Painter
painter number = cond (eqb number 0) Fill (cond (eqb number 1) Stroke Shadow)

-- what the painter makes of the canvas px
unfoldable pub painted : List ℕ → List ℕ → List ℕ
painted rec px = cond (eqb (word rec 0) 0) (fill rec px) (cond (eqb (word rec 0) 1) (stroke rec px) (shadow rec px))

-- the painter makes of the canvas of 64 pixels what the Rust made of it
unfoldable pub replayed : List ℕ → Bool
replayed rec = recorded rec (painted rec (map_row (λ i p. pixel (word rec 21) (word rec 22) i) (replicate 64 0))) 64
