-- `glass_layer`: the painter takes the fields of the block.
use Rattle.layer.specs.Private.{glazed_in, glazed_first, glazed_used}
use Rattle.layer.proofs.glass_layer.Goals as goal

pub returns : goal.returns
unfolding glazed_in glazed_first glazed_used
returns c =
    let u = c.glass.ensures in record { canvas = rw (c.entries-table.ensures, c.rect-rect.ensures, c.style_of-style.ensures, c.clip.ensures) at u.canvas; first = rw (c.entries-table.ensures, c.rect-rect.ensures, c.style_of-style.ensures, c.clip.ensures) at u.first; second = rw (c.entries-table.ensures, c.rect-rect.ensures, c.style_of-style.ensures, c.clip.ensures) at u.second }
