-- `window_of`: the window by the block's fields.
use Rattle.backdrop.specs.Window.{window_area}
use Rattle.boxes.proofs.window_of.Goals as goal

pub returns : goal.returns
unfolding window_area
returns c = rw (c.entries-table.ensures, c.rect.ensures, c.style_of.ensures) at c.window.ensures
