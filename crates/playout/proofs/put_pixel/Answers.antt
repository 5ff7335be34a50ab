-- `put_pixel`: three bytes.
use Rattle.std.proofs.Common.{◌≡◌, ap, arith}
use Rattle.color.specs.Color.{red, green, blue}
use Rattle.color.specs.declared.Color.{Color}
use Rattle.playout.specs.Printed.{byte, pixel}
use Rattle.playout.proofs.Laws.{join}
use Rattle.playout.proofs.put_pixel.Goals as goal

pub put_byte-blue-requires : goal.put_byte-blue-requires
unfolding byte
put_byte-blue-requires c = omega (arith, c.put_byte-green.ensures.end)

pub put_byte-requires : goal.put_byte-requires
unfolding byte
put_byte-requires c = omega (arith, c.put_byte-blue.ensures.end, c.put_byte-green.ensures.end)

pub returns : goal.returns
unfolding pixel
returns c =
    let k = c.from_pix-c in
    let r : k.result.r ≡ red c.args.p = ap (λ (l : Color). l.r) k.ensures in
    let h : k.result.g ≡ green c.args.p = ap (λ (l : Color). l.g) k.ensures in
    let b : k.result.b ≡ blue c.args.p = ap (λ (l : Color). l.b) k.ensures in
    rw (← r, ← h, ← b) (join (join c.put_byte-green.ensures c.put_byte-blue.ensures) c.put_byte.ensures)
