-- `clipped`: the shape under the clip.
use Prim.Native.Nat.{◌*◌, ◌≤◌}
use mathlib.Core.Path.{◌∙◌}
use native.Mathlib.Nat.{mul-le-mul}
use native.Mathlib.Omega.{arith}
use Rattle.canvas.proofs.Laws.Area.{canvas_is}
use Rattle.boxes.proofs.Parts.{area_is}
use Rattle.boxes.proofs.clipped.Goals as goal

pub overflow_mul-size : goal.overflow_mul-size
overflow_mul-size c =
    let i = canvas_is _ _ _ c.requires in
    let p : c.args.size.w * c.args.size.h ≤ 4096 * 4096 = mul-le-mul i.narrow i.low in
    omega arith

pub returns : goal.returns
returns c = rw c.clip.ensures at c.area_on.ensures.sides ∙ area_is _ _ _ _ _ c.requires
