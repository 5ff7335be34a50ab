-- A glass panel over its small picture: places in the picture, and its colours. The picture is a list of bytes, three for each of its
-- lw by lh cells, row after row; a cell is k by k pixels of the window.
use Rattle.std.specs.Prelude.{ℕ, ◌+◌, ◌-◌, ◌*◌, ◌/◌, min, List, get_or}
use Rattle.color.specs.Color.{pack}
use Rattle.panel.specs.declared.Panel.{Panel}

-- ---- places, counted in 256ths

-- v from the window's side, in 256ths of a pixel, counted in 256ths of a cell from the first cell's centre. What is below zero is held to 0: the difference stops there
abbrev pub shrunk : ℕ → ℕ → ℕ
shrunk k v = (v + 128) / k - 128

-- the same, held to where there is a next of n cells
unfoldable pub place : ℕ → ℕ → ℕ → ℕ
place k n v = min (shrunk k v) ((n - 1) * 256 - 1)

-- the place under column x, and under row y
abbrev pub col_place : Panel → ℕ → ℕ
col_place p x = place p.k p.lw ((x - p.wx) * 256)

abbrev pub row_place : Panel → ℕ → ℕ
row_place p y = place p.k p.lh ((y - p.wy) * 256)

-- ---- colours

-- where the bytes of the cell in column x of row y begin
abbrev pub cell_at : ℕ → ℕ → ℕ → ℕ
cell_at lw x y = (y * lw + x) * 3

-- the three bytes from o on as a pixel
abbrev pub pix_at : List ℕ → ℕ → ℕ
pix_at lo o = pack (get_or lo o 0) (get_or lo (o + 1) 0) (get_or lo (o + 2) 0)
