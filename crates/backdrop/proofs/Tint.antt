-- Saturation and tint: 32 bits hold everything on the way, and what the code reads is what the definition says.
use Prim.Native.Nat.{ℕ, ◌+◌, ◌*◌, ◌/◌, ◌%◌, ◌≤◌, ◌<◌}
use mathlib.Core.Path.{◌≡◌, refl, sym, ap, ◌∙◌, subst}
use mathlib.Core.List.{List}
use mathlib.Core.Bool.{Bool, true, false}
use native.Mathlib.Nat.{mul-le-mul}
use native.Mathlib.Decide.{dec_lt}
use native.Mathlib.Omega.{arith}
use lib.IntN.{ℤ, pos, negsuc, neg_ℤ, nat_abs, ◌+ℤ◌, ◌-ℤ◌, ◌*ℤ◌}
use lib.Signed.{lt_z, shr_z}
use lib.ListN.{length, get_or, set, length-set}
use lib.Seq.{get_or-set_same, get_or-set_other, ext_get_or}
use lib.Ieee.{Float}
use mir.Syntax.{w32}
use mir.Val.{SFits, to_z, of_z}
use mir.Facts.{to_z-of_z, to_z_pos}
use borrow.Author.Tests.{ltb-false}
use Rattle.color.specs.declared.Color.{Color}
use Rattle.boxblur.specs.Box.{table}
use Rattle.boxblur.proofs.Pass.{table_length, table_at}
use Rattle.geom.specs.Geom.{min_z, max_z}
use Rattle.backdrop.specs.Picture.{satq, saturated, toward, shade, tinted_byte, lum_at, tinted}
use Rattle.backdrop.specs.Private.{tinted_cell}
use Rattle.backdrop.proofs.Whole.{abs_add, abs_sub, abs_mul, abs_shr, in32}

-- a product's size
product : (a b : ℤ) (m n : ℕ) → nat_abs a ≤ m → nat_abs b ≤ n → nat_abs (a *ℤ b) ≤ m * n
product a b m n p q = rw (abs_mul a b) (mul-le-mul p q)

pub byte_read : (n : ℕ) → n < 256 → to_z w32 n ≡ pos n
byte_read n h = to_z_pos w32 (omega arith)

-- ---- one channel, drawn away from the brightness

pub record Saturated (c l : ℕ) (sat : ℤ) : Type 0 where
  pub sub : SFits w32 (to_z w32 c -ℤ to_z w32 l)
  pub mul : SFits w32 (to_z w32 (of_z w32 (to_z w32 c -ℤ to_z w32 l)) *ℤ to_z w32 (of_z w32 sat))
  pub add : (r : ℤ) → r ≡ shr_z (to_z w32 (of_z w32 (to_z w32 (of_z w32 (to_z w32 c -ℤ to_z w32 l)) *ℤ to_z w32 (of_z w32 sat)))) 256 → SFits w32 (to_z w32 l +ℤ to_z w32 (of_z w32 r))
  pub is : (r : ℤ) → r ≡ shr_z (to_z w32 (of_z w32 (to_z w32 (of_z w32 (to_z w32 c -ℤ to_z w32 l)) *ℤ to_z w32 (of_z w32 sat)))) 256 → to_z w32 (of_z w32 (to_z w32 l +ℤ to_z w32 (of_z w32 r))) ≡ saturated sat l c

module _ (c l : ℕ) (sat : ℤ) (hc : c < 256) (hl : l < 256) (hs : nat_abs sat ≤ 8192) where
  d_size : nat_abs (pos c -ℤ pos l) ≤ 510
  d_size = omega (arith, abs_sub (pos c) (pos l))

  m_size : nat_abs ((pos c -ℤ pos l) *ℤ sat) ≤ 510 * 8192
  m_size = product (pos c -ℤ pos l) sat 510 8192 d_size hs

  r_size : nat_abs (pos l +ℤ shr_z ((pos c -ℤ pos l) *ℤ sat) 256) ≤ 4200000
  r_size = omega (arith, abs_add (pos l) (shr_z ((pos c -ℤ pos l) *ℤ sat) 256), abs_shr ((pos c -ℤ pos l) *ℤ sat), m_size)

  pub saturated_most : nat_abs (saturated sat l c) ≤ 4200000
  unfolding saturated
  saturated_most = r_size

  pub saturated_read : SFits w32 sat → Saturated c l sat
  unfolding saturated
  saturated_read f =
      let fd = in32 (pos c -ℤ pos l) (omega (arith, d_size)) in
      let fm = in32 ((pos c -ℤ pos l) *ℤ sat) (omega (arith, m_size)) in
      let fs = in32 (shr_z ((pos c -ℤ pos l) *ℤ sat) 256) (omega (arith, abs_shr ((pos c -ℤ pos l) *ℤ sat), m_size)) in
      let fr = in32 (pos l +ℤ shr_z ((pos c -ℤ pos l) *ℤ sat) 256) (omega (arith, r_size)) in
      let rc = byte_read c hc in
      let rl = byte_read l hl in
      record {
        sub = rw (rc, rl) fd;
        mul = rw (rc, rl, to_z-of_z fd, to_z-of_z f) fm;
        add = λ r e. rw (e, rc, rl, to_z-of_z fd, to_z-of_z f, to_z-of_z fm, to_z-of_z fs) fr;
        is = λ r e. rw (e, rc, rl, to_z-of_z fd, to_z-of_z f, to_z-of_z fm, to_z-of_z fs) (to_z-of_z fr);
      }

-- ---- towards the tint

pub record Toward (t a : ℕ) (v : ℤ) : Type 0 where
  pub sub : SFits w32 (to_z w32 t -ℤ to_z w32 (of_z w32 v))
  pub mul : SFits w32 (to_z w32 (of_z w32 (to_z w32 t -ℤ to_z w32 (of_z w32 v))) *ℤ to_z w32 a)
  pub add : (r : ℤ) → r ≡ shr_z (to_z w32 (of_z w32 (to_z w32 (of_z w32 (to_z w32 t -ℤ to_z w32 (of_z w32 v))) *ℤ to_z w32 a))) 256 → SFits w32 (to_z w32 (of_z w32 v) +ℤ to_z w32 (of_z w32 r))
  pub is : (r : ℤ) → r ≡ shr_z (to_z w32 (of_z w32 (to_z w32 (of_z w32 (to_z w32 t -ℤ to_z w32 (of_z w32 v))) *ℤ to_z w32 a))) 256 → to_z w32 (of_z w32 (to_z w32 (of_z w32 v) +ℤ to_z w32 (of_z w32 r))) ≡ toward t a v

module _ (t a : ℕ) (v : ℤ) (ht : t < 256) (ha : a < 256) (hv : nat_abs v ≤ 4200000) where
  e_size : nat_abs (pos t -ℤ v) ≤ 4200255
  e_size = omega (arith, abs_sub (pos t) v)

  n_size : nat_abs ((pos t -ℤ v) *ℤ pos a) ≤ 4200255 * 255
  n_size = product (pos t -ℤ v) (pos a) 4200255 255 e_size (omega arith)

  u_size : nat_abs (v +ℤ shr_z ((pos t -ℤ v) *ℤ pos a) 256) < 2147483648
  u_size = omega (arith, abs_add v (shr_z ((pos t -ℤ v) *ℤ pos a) 256), abs_shr ((pos t -ℤ v) *ℤ pos a), n_size)

  pub toward_fits : SFits w32 (toward t a v)
  unfolding toward
  toward_fits = in32 (v +ℤ shr_z ((pos t -ℤ v) *ℤ pos a) 256) u_size

  pub toward_read : Toward t a v
  unfolding toward
  toward_read =
      let fv = in32 v (omega arith) in
      let fe = in32 (pos t -ℤ v) (omega (arith, e_size)) in
      let fn = in32 ((pos t -ℤ v) *ℤ pos a) (omega (arith, n_size)) in
      let fs = in32 (shr_z ((pos t -ℤ v) *ℤ pos a) 256) (omega (arith, abs_shr ((pos t -ℤ v) *ℤ pos a), n_size)) in
      let fu = in32 (v +ℤ shr_z ((pos t -ℤ v) *ℤ pos a) 256) u_size in
      let rt = byte_read t ht in
      let ra = byte_read a ha in
      record {
        sub = rw (rt, to_z-of_z fv) fe;
        mul = rw (rt, ra, to_z-of_z fv, to_z-of_z fe) fn;
        add = λ r e. rw (e, rt, ra, to_z-of_z fv, to_z-of_z fe, to_z-of_z fn, to_z-of_z fs) fu;
        is = λ r e. rw (e, rt, ra, to_z-of_z fv, to_z-of_z fe, to_z-of_z fn, to_z-of_z fs) (to_z-of_z fu);
      }

-- ---- the saturation

abbrev pub held_z : ℤ → ℤ
held_z z = max_z (min_z z (pos 8192)) (neg_ℤ (pos 8192))

held_size : (z : ℤ) → nat_abs (held_z z) ≤ 8192
unfolding max_z min_z
held_size z = go (lt_z (pos 8192) z) refl (lt_z z (negsuc 8191)) refl
  where
    small : (y : ℤ) → lt_z (pos 8192) y ≡ false → lt_z y (negsuc 8191) ≡ false → nat_abs y ≤ 8192
    small (pos n) p q = ltb-false 8192 n p
    small (negsuc n) p q = let k : n ≤ 8191 = ltb-false 8191 n q in omega arith

    go : (s : Bool) → lt_z (pos 8192) z ≡ s → (t : Bool) → lt_z z (negsuc 8191) ≡ t → nat_abs (held_z z) ≤ 8192
    go true p t q = rw p (omega arith)
    go false p true q = rw (p, q) (omega arith)
    go false p false q = rw (p, q) (small z p q)

pub satq_most : (s : Float) → nat_abs (satq s) ≤ 8192
unfolding satq
satq_most s = held_size _

-- ---- cell after cell

pub tinted_cell_lem : (sat : ℤ) (tint : Color) (lo : List ℕ) (o : ℕ) {l p q r : ℕ} → l ≡ lum_at lo o
    → p ≡ tinted_byte sat tint.r tint.a l (get_or lo o 0)
    → q ≡ tinted_byte sat tint.g tint.a l (get_or lo (o + 1) 0)
    → r ≡ tinted_byte sat tint.b tint.a l (get_or lo (o + 2) 0)
    → set (set (set lo o p) (o + 1) q) (o + 2) r ≡ tinted_cell sat tint lo o
unfolding tinted_cell
tinted_cell_lem sat tint lo o e f g h = rw (f, g, h, e)

-- byte k, tinted
abbrev pub new_byte : ℤ → Color → List ℕ → ℕ → ℕ
new_byte sat tint lo k = tinted_byte sat (shade (k % 3) tint) tint.a (lum_at lo (k / 3 * 3)) (get_or lo k 0)

-- the first i cells are tinted: lo is as it came, r as it is
pub record Tinting (sat : ℤ) (tint : Color) (lo r : List ℕ) (i : ℕ) : Type 0 where
  pub long : length r ≡ length lo
  pub done : (k : ℕ) → k < 3 * i → get_or r k 0 ≡ new_byte sat tint lo k
  pub rest : (k : ℕ) → 3 * i ≤ k → get_or r k 0 ≡ get_or lo k 0

pub tinting_start : {sat : ℤ} {tint : Color} {lo : List ℕ} → Tinting sat tint lo lo 0
tinting_start = record { long = refl; done = λ k h. absurd (omega arith); rest = λ k h. refl }

-- byte ch of cell i
new_byte_lem : (sat : ℤ) (tint : Color) (lo : List ℕ) (i ch v : ℕ) → ch < 3 → v ≡ get_or lo (3 * i + ch) 0
    → tinted_byte sat (shade ch tint) tint.a (lum_at lo (3 * i)) v ≡ new_byte sat tint lo (3 * i + ch)
new_byte_lem sat tint lo i ch v h e =
    let a : ch ≡ (3 * i + ch) % 3 = omega arith in
    let b : 3 * i ≡ (3 * i + ch) / 3 * 3 = omega arith in
    ap (λ (n : ℕ). tinted_byte sat (shade n tint) tint.a (lum_at lo (3 * i)) v) a
    ∙ ap (λ (n : ℕ). tinted_byte sat (shade ((3 * i + ch) % 3) tint) tint.a (lum_at lo n) v) b
    ∙ ap (tinted_byte sat (shade ((3 * i + ch) % 3) tint) tint.a (lum_at lo ((3 * i + ch) / 3 * 3))) e

module _ (d : List ℕ) (o a b c : ℕ) where
  put_0 : o + 2 < length d → get_or (set (set (set d o a) (o + 1) b) (o + 2) c) o 0 ≡ a
  put_0 h = get_or-set_other (set (set d o a) (o + 1) b) (o + 2) o c 0 (omega arith) ∙ get_or-set_other (set d o a) (o + 1) o b 0 (omega arith) ∙ get_or-set_same d o a 0 (omega arith)

  put_1 : o + 2 < length d → get_or (set (set (set d o a) (o + 1) b) (o + 2) c) (o + 1) 0 ≡ b
  put_1 h = get_or-set_other (set (set d o a) (o + 1) b) (o + 2) (o + 1) c 0 (omega arith) ∙ get_or-set_same (set d o a) (o + 1) b 0 (simp length-set (omega arith))

  put_2 : o + 2 < length d → get_or (set (set (set d o a) (o + 1) b) (o + 2) c) (o + 2) 0 ≡ c
  put_2 h = get_or-set_same (set (set d o a) (o + 1) b) (o + 2) c 0 (simp length-set (omega arith))

  put_other : (k : ℕ) → (k ≡ o → ⊥) → (k ≡ o + 1 → ⊥) → (k ≡ o + 2 → ⊥) → get_or (set (set (set d o a) (o + 1) b) (o + 2) c) k 0 ≡ get_or d k 0
  put_other k p q r =
      get_or-set_other (set (set d o a) (o + 1) b) (o + 2) k c 0 (omega arith)
      ∙ get_or-set_other (set d o a) (o + 1) k b 0 (omega arith)
      ∙ get_or-set_other d o k a 0 (omega arith)

lum_same : (r lo : List ℕ) (o : ℕ) → get_or r o 0 ≡ get_or lo o 0 → get_or r (o + 1) 0 ≡ get_or lo (o + 1) 0 → get_or r (o + 2) 0 ≡ get_or lo (o + 2) 0 → lum_at r o ≡ lum_at lo o
unfolding lum_at
lum_same r lo o e f g = rw (e, f, g)

pub tinting_more : {sat : ℤ} {tint : Color} {lo r : List ℕ} (i : ℕ) → Tinting sat tint lo r i → 3 * i + 2 < length r → Tinting sat tint lo (tinted_cell sat tint r (3 * i)) (i + 1)
unfolding tinted_cell
tinting_more {sat} {tint} {lo} {r} i t h =
    let o : ℕ = 3 * i in
    let l : lum_at r (3 * i) ≡ lum_at lo (3 * i) = lum_same r lo (3 * i) (t.rest (3 * i) (omega arith)) (t.rest (3 * i + 1) (omega arith)) (t.rest (3 * i + 2) (omega arith)) in
    let p = tinted_byte sat tint.r tint.a (lum_at r (3 * i)) (get_or r (3 * i) 0) in
    let q = tinted_byte sat tint.g tint.a (lum_at r (3 * i)) (get_or r (3 * i + 1) 0) in
    let s = tinted_byte sat tint.b tint.a (lum_at r (3 * i)) (get_or r (3 * i + 2) 0) in
    let z : 3 * i ≡ 3 * i + 0 = omega arith in
    let x : List ℕ = set (set (set r (3 * i) p) (3 * i + 1) q) (3 * i + 2) s in
    let at-0 : get_or x (3 * i) 0 ≡ new_byte sat tint lo (3 * i) =
    put_0 r (3 * i) p q s h ∙ ap (λ (m : ℕ). tinted_byte sat tint.r tint.a m (get_or r (3 * i) 0)) l
    ∙ new_byte_lem sat tint lo i 0 (get_or r (3 * i) 0) (omega arith) (t.rest (3 * i) (omega arith) ∙ ap (λ (m : ℕ). get_or lo m 0) z)
    ∙ ap (new_byte sat tint lo) (sym z) in
    let at_1 : get_or x (3 * i + 1) 0 ≡ new_byte sat tint lo (3 * i + 1) =
    put_1 r (3 * i) p q s h ∙ ap (λ (m : ℕ). tinted_byte sat tint.g tint.a m (get_or r (3 * i + 1) 0)) l
    ∙ new_byte_lem sat tint lo i 1 (get_or r (3 * i + 1) 0) (omega arith) (t.rest (3 * i + 1) (omega arith)) in
    let at-2 : get_or x (3 * i + 2) 0 ≡ new_byte sat tint lo (3 * i + 2) =
    put_2 r (3 * i) p q s h ∙ ap (λ (m : ℕ). tinted_byte sat tint.b tint.a m (get_or r (3 * i + 2) 0)) l
    ∙ new_byte_lem sat tint lo i 2 (get_or r (3 * i + 2) 0) (omega arith) (t.rest (3 * i + 2) (omega arith)) in
    record {
      long = simp length-set t.long;
      done = λ k hk. elim (dec_lt k (3 * i)) [
        | yes lo-k ↦ put_other r (3 * i) p q s k (λ e. omega arith) (λ e. omega arith) (λ e. omega arith) ∙ t.done k lo-k
        | no up ↦ elim (dec_lt k (3 * i + 1)) [
          | yes is-0 ↦ let e : k ≡ 3 * i = omega arith in subst (λ (m : ℕ). get_or x m 0 ≡ new_byte sat tint lo m) (sym e) at-0
          | no up-0 ↦ elim (dec_lt k (3 * i + 2)) [
            | yes is-1 ↦ let e : k ≡ 3 * i + 1 = omega arith in subst (λ (m : ℕ). get_or x m 0 ≡ new_byte sat tint lo m) (sym e) at_1
            | no up-1 ↦ let e : k ≡ 3 * i + 2 = omega arith in subst (λ (m : ℕ). get_or x m 0 ≡ new_byte sat tint lo m) (sym e) at-2
          ]
        ]
      ];
      rest = λ k hk. put_other r (3 * i) p q s k (λ e. omega arith) (λ e. omega arith) (λ e. omega arith) ∙ t.rest k (omega arith);
    }

pub tinting_end : (saturation : Float) {tint : Color} {lo r : List ℕ} (i : ℕ) → Tinting (satq saturation) tint lo r i → length lo ≤ 3 * i → r ≡ tinted saturation tint lo
unfolding tinted
tinting_end saturation {tint} {lo} {r} i t h =
    ext_get_or 0 r (table (length lo) (new_byte (satq saturation) tint lo)) (t.long ∙ sym (table_length (length lo) (new_byte (satq saturation) tint lo)))
    (λ k hk.
    let n : k < length lo = rw t.long at hk in
    t.done k (omega arith) ∙ sym (table_at (length lo) (new_byte (satq saturation) tint lo) k n))
