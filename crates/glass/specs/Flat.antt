-- A flat panel: no bezel, square corners. Each pixel lies between four cells; its colour is mixed down the rows first and then across, each time rounded down.
use Rattle.std.specs.Prelude.{ℕ, ◌+◌, ◌/◌, ◌%◌, List}
use Rattle.color.specs.Color.{mix_pix}
use Rattle.panel.specs.declared.Panel.{Panel}
use Rattle.panel.specs.Panel.{lit}
use Rattle.glass.specs.Places.{col_place, row_place, cell_at, pix_at}

-- the colour of the picture's column x at the place fy of its rows
unfoldable pub column : List ℕ → ℕ → ℕ → ℕ → ℕ
column lo lw fy x = mix_pix (pix_at lo (cell_at lw x (fy / 256))) (pix_at lo (cell_at lw x (fy / 256 + 1))) (fy % 256)

-- the colour at the place fx of the columns and fy of the rows
unfoldable pub across : List ℕ → ℕ → ℕ → ℕ → ℕ
across lo lw fx fy = mix_pix (column lo lw fy (fx / 256)) (column lo lw fy (fx / 256 + 1)) (fx % 256)

-- the pixel in column x of row y
unfoldable pub flat_pix : Panel → List ℕ → ℕ → ℕ → ℕ
flat_pix p lo x y = lit p (across lo p.lw (col_place p x) (row_place p y))
