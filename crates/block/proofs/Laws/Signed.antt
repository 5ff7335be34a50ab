-- The signed number that std casts to.
use Prim.Native.Nat.{ℕ, suc, ◌-◌, ◌^◌}
use mathlib.Core.Bool.{true, false, cond}
use mathlib.Core.Path.{◌≡◌, refl, ap}
use native.Mathlib.Omega.{arith}
use lib.Dec.{ltb}
use lib.IntN.{pos, negsuc}
use mir.Syntax.{w32}
use mir.Val.{to_z}
use Rattle.block.specs.Bytes.{signed}

pub signed_is : (n : ℕ) → to_z w32 n ≡ signed n
unfolding signed
signed_is n =
    let e : 2 ^ 32 - suc n ≡ 0xffff_ffff - n = omega arith in
    elim (ltb n 0x8000_0000) as (λ t. cond t (pos n) (negsuc (2 ^ 32 - suc n)) ≡ cond t (pos n) (negsuc (0xffff_ffff - n))) [ true ↦ refl | false ↦ ap negsuc e ]
