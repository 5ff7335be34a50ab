-- `run_row`: the three spans join from left to right.
use Prim.Native.Nat.{◌+◌, ◌-◌, ◌*◌, ◌/◌, ◌<◌}
use mathlib.Core.Path.{◌≡◌, ◌∙◌}
use mathlib.Core.Bool.{true}
use native.Mathlib.Omega.{arith}
use Rattle.canvas.proofs.Laws.Rows.{rowed_end}
use Rattle.glass.specs.Places.{row_place}
use Rattle.glass.specs.Private.{row_pix}
use Rattle.glass.proofs.Sizes.{place_in, place_next}
use Rattle.glass.proofs.RunRow.{lead_long, three}
use borrow.Author.Rules.{rules}
use Rattle.glass.proofs.upsample.run_row.Goals as goal
use Rattle.glass.proofs.upsample.run_row.Goals.{Start}

-- a flat panel's row has a next
next_row : (s : Start) → s.args.flat ≡ true → row_place s.args.view.p s.args.y / 256 + 1 < s.args.view.p.lh
next_row s e = let a = s.args in place_next a.view.p.k a.view.p.lh ((a.y - a.view.p.wy) * 256) (s.requires.row.1 e).1

pub parts-requires : goal.parts-requires
parts-requires c =
    let a = c.args in
    let F = c.requires.runs_fit in
    let to = a.s.lead + a.s.count * a.view.p.k in
    let long = lead_long (λ i q. row_pix a.view.p a.view.lo.now a.flat (a.x + i) a.y) a.dst.now a.s.lead to (omega arith) F.room c.each.ensures in
    let less : a.s.lead + a.s.count * a.view.p.k - a.s.lead ≡ a.s.count * a.view.p.k = omega arith in (
      omega (arith, c.row_place-fy.ensures, place_in a.view.p.k a.view.p.lh ((a.y - a.view.p.wy) * 256) c.args.view.sized.tall),
      long ∙ less,
      F.cells,
      F.even,
    )

pub returns : goal.returns
returns c =
    let a = c.args in
    let R = three a.view.p a.view.lo.now a.x a.y a.flat a.s a.view.bytes (next_row (goal.at.returns c).Start) c.requires.runs_fit c.row_place-fy.ensures c.each.ensures c.parts.ensures c.each-2.ensures in
    rowed_end R (omega (arith, R.long))

pub each-requires-2 : goal.each-requires-2
each-requires-2 c = (search rules, c.requires.row.1)
