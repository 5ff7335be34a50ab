-- `middle`: both columns, read back from an i32.
use Rattle.fill.proofs.Laws.{left_read, right_read}
use Rattle.fill.proofs.Shape.middle.Goals as goal

pub returns : goal.returns
returns c =
    let a = c.args in
    rw (left_read a.corner a.self.rect a.self.r c.left_end.ensures, right_read a.corner a.self.rect a.self.r c.right_start.ensures) at c.middle_cols.ensures
