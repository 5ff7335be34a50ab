-- For the private contracts: the stain that a map shows, and the map after one layer.
use Rattle.std.specs.Option.{option_map_or}
use Rattle.std.specs.Prelude.{ℕ, Bool, cond, List, ltb, eqb, length, get_or, Option, None, Some}
use Rattle.geom.specs.declared.IRect.{IRect}
use Rattle.canvas.specs.Canvas.{painted, boxed}
use Rattle.block.specs.Fields as Fields
use Rattle.taint.specs.Stain.{Sort, plain, copy, glass, Stain, meets}
use Rattle.layer.specs.Layer.{kind_of, box_by, layer_of}

-- the stain that a map shows
unfoldable pub shown : List ℕ → Stain
shown map k = ltb 0 (get_or map k 0)

-- v at each pixel of the box
unfoldable pub put : ℕ → IRect → ℕ → List ℕ → List ℕ
put w box v map = painted w (boxed box (λ x y old. v)) map

-- what a copy of the source t does to the pixels of its box, where s is the hidden source: the byte at each, or nothing
unfoldable pub copy_mark : ℕ → ℕ → Bool → Option ℕ
copy_mark s t exact = cond (eqb t s) (Some 1) (cond exact (Some 0) None)

-- the same of a layer
unfoldable pub mark : (w s : ℕ) → Sort → List ℕ → Option ℕ
mark w s plain map = None
mark w s (copy t exact) map = copy_mark s t exact
mark w s (glass win) map = cond (meets w (length map) win (shown map)) (Some 1) None

-- the map after a layer
unfoldable pub marked : (w s : ℕ) → Sort → IRect → List ℕ → List ℕ
marked w s sort box map = option_map_or (λ v. put w box v map) (mark w s sort map) map

-- the layer's box, and the map after it, by its block b
unfoldable pub box_at : ℕ → ℕ → List ℕ → List ℕ → IRect
box_at w h table b = box_by (kind_of (Fields.kind b)) w h table b

unfoldable pub marked_by : (w h : ℕ) (table : List ℕ) (s : ℕ) (b map : List ℕ) → List ℕ
marked_by w h table s b map = let l = layer_of w h table b in marked w s l.sort l.box map
