-- The stain of a hidden source as a map: a byte for each pixel of the canvas, 1 where the stain holds the pixel and 0 elsewhere.
use Rattle.answer.specs.Answer.{Answer}
use Rattle.std.specs.Prelude.{ℕ, cond, List, length, Ok, Err}
use Rattle.canvas.specs.Rows.{map_row}
use Rattle.taint.specs.Stain.{Stain}
use Rattle.accept.specs.Tests.{sizes_answer}
use Rattle.play.specs.Play.{stain_after}

-- every byte of the map by the stain
unfoldable pub map_of : Stain → List ℕ → List ℕ
map_of σ map = map_row (λ k old. cond (σ k) 1 0) map

-- the map after an answer: as it was after a refusal. Forecast's `leaves` has this shape, and this crate does not stand on forecast
unfoldable pub map_after : Answer → (w h : ℕ) (table buf : List ℕ) (s : ℕ) (map : List ℕ) → List ℕ
map_after (Ok n) w h table buf s map = map_of (stain_after (Ok n) w h (length map) table buf s) map
map_after (Err r) w h table buf s map = map

-- the map that `stain` leaves, of the source s on a canvas of w by h
unfoldable pub stain_map : (w h : ℕ) (table buf : List ℕ) (s : ℕ) (map : List ℕ) → List ℕ
stain_map w h table buf s map = map_after (sizes_answer w h (length map) table buf) w h table buf s map
