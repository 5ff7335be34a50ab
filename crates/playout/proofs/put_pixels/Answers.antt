-- `put_pixels`: the pixels below i have been put, seven bytes each.
use Rattle.std.proofs.Common.{◌≡◌, get_or, arith}
use Rattle.playout.specs.Printed.{pixels}
use Rattle.playout.proofs.Laws.{none, join, same, pixels_more, pixels_length, pixel_length, follow_length}
use Rattle.playout.proofs.put_pixels.Goals as goal

pub loop-i-init : goal.loop-i-init
unfolding pixels
loop-i-init c = none c.args.out.now c.args.at

pub put_pixel-space-requires : goal.put_pixel-space-requires
put_pixel-space-requires c =
    let l = c.loop-i in
    omega (arith, l.invariant.end, pixels_length c.args.px.now l.i)

pub put_text-to-requires : goal.put_text-to-requires
put_text-to-requires c =
    let l = c.loop-i in
    let px = c.args.px.now in
    rw c.follow.ensures
    (omega (
      arith,
      l.invariant.end,
      pixels_length px l.i,
      c.put_pixel-space.ensures.end,
      pixel_length (get_or px l.i 0),
      follow_length l.i,
    ))

pub loop-i-preserved : goal.loop-i-preserved
loop-i-preserved c =
    let l = c.loop-i in
    rw (pixels_more c.args.px.now l.i)
    (join l.invariant (join c.put_pixel-space.ensures (same c.follow.ensures c.put_text-to.ensures)))

pub returns : goal.returns
returns c =
    let end : c.loop-i.i ≡ 8 = omega arith in
    rw end at c.loop-i.invariant
