-- `whole`: the canvas's sides fit an i32.
use native.Mathlib.Omega.{arith}
use mir.Syntax.{w32}
use mir.Val.{SFits}
use mir.Facts.{to_z-of_z}
use lib.IntN.{pos}
use Rattle.canvas.proofs.Laws.Area.{canvas_is}
use Rattle.boxes.proofs.whole.Goals as goal
use Rattle.boxes.proofs.whole.Goals.{Start}

wide : (s : Start) → SFits w32 (pos s.args.size.w)
wide s = record { sfits = omega (arith, (canvas_is _ _ _ s.requires).narrow) }

tall : (s : Start) → SFits w32 (pos s.args.size.h)
tall s = record { sfits = omega (arith, (canvas_is _ _ _ s.requires).low) }

pub returns : goal.returns
returns c = rw (to_z-of_z (wide (goal.at.returns c).Start), to_z-of_z (tall (goal.at.returns c).Start)) at c.new.ensures

pub overflow_cast-size : goal.overflow_cast-size
overflow_cast-size c = wide (goal.at.overflow_cast-size c).Start

pub overflow_cast-size-2 : goal.overflow_cast-size-2
overflow_cast-size-2 c = tall (goal.at.overflow_cast-size-2 c).Start
