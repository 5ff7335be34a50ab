-- Which way a panel is painted.
use Prim.Native.Nat.{ℕ, ◌/◌, ◌%◌, ◌≤◌}
use mathlib.Core.Path.{◌≡◌, refl, ap}
use mathlib.Core.Bool.{Bool, true, false, cond, ◌&&◌}
use mathlib.Core.List.{List}
use native.Mathlib.Omega.{arith}
use lib.Dec.{leb}
use lib.IntN.{pos}
use lib.ListN.{length, get_or}
use lib.Ieee.{Float, lt, eq}
use Rattle.mathf.specs.Real as Real
use borrow.Author.Tests.{eq-eqb, ne_eqb, leb-true}
use Rattle.geom.specs.declared.IRect.{IRect}
use Rattle.geom.specs.Geom.{holds}
use Rattle.geom.proofs.Laws.{both_true}
use Rattle.canvas.specs.Canvas.{flat, is_canvas, painted_on, boxed}
use Rattle.canvas.proofs.Laws.Rows.{map_row_id, map_row_same}
use Rattle.panel.specs.declared.Panel.{Panel}
use Rattle.glass.specs.Private.{Sized, Fitting}
use Rattle.glass.specs.Flat.{flat_pix}
use Rattle.glass.specs.General.{general_pix}
use Rattle.panel.specs.Panel.{is_flat}
use Rattle.glass.specs.Glass.{is_bare, panel_pix}

-- a window with a pixel
pub sized_of : {p : Panel} {lo : List ℕ} → Fitting p lo → (p.lw ≡ 0 → ⊥) → (p.lh ≡ 0 → ⊥) → Sized p lo
sized_of {p} F x y = record {
  least = F.least;
  most = F.most;
  no_three = F.no_three;
  wide = some_of p.lw x;
  narrow = F.narrow;
  tall = some_of p.lh y;
  low = F.low;
  near = F.near;
  high = F.high;
  bytes = F.bytes;
}
  where
    some_of : (n : ℕ) → (n ≡ 0 → ⊥) → 1 ≤ n
    some_of n h = omega arith

-- a flat panel's picture has two columns and two rows
pub flat_sizes : (p : Panel) (spec : Float) → is_flat p spec ≡ true → (2 ≤ p.lw) × (2 ≤ p.lh)
unfolding is_flat
flat_sizes p spec e =
    let tests : Bool = lt p.bezel Real.point_five && lt p.r Real.point_five && eq spec Real.zero in
    let b = both_true (tests && leb 2 p.lw) (leb 2 p.lh) e in
    let a = both_true tests (leb 2 p.lw) b.0 in
    (leb-true 2 p.lw a.1, leb-true 2 p.lh b.1)

-- ---- rules

pub stays : (w h : ℕ) (r : IRect) (F : ℕ → ℕ → ℕ → ℕ) (cv : List ℕ) → ((x y q : ℕ) → F x y q ≡ q) → cv ≡ painted_on w h (boxed r F) cv
unfolding boxed painted_on
stays w h r F cv e = on (is_canvas w h (length cv)) (map_row_id (flat w (boxed r F)) cv (λ i _. go (holds r (pos (i % w)) (pos (i / w))) (e (i % w) (i / w) (get_or cv i 0))))
  where
    go : (t : Bool) {u v : ℕ} → u ≡ v → cond t u v ≡ v
    go true f = f
    go false f = refl

    on : (t : Bool) {u : List ℕ} → cv ≡ u → cv ≡ cond t u cv
    on true f = f
    on false f = refl

pub same_rule : (w h : ℕ) (r : IRect) (F G : ℕ → ℕ → ℕ → ℕ) (cv : List ℕ) → ((x y q : ℕ) → F x y q ≡ G x y q) → painted_on w h (boxed r F) cv ≡ painted_on w h (boxed r G) cv
unfolding boxed painted_on
same_rule w h r F G cv e = ap (λ (l : List ℕ). cond (is_canvas w h (length cv)) l cv) (map_row_same (flat w (boxed r F)) (flat w (boxed r G)) cv (λ i _. rw (e (i % w) (i / w) (get_or cv i 0))))

module _ (p : Panel) (spec : Float) (table : List Float) (lo : List ℕ) where
  pub no_column : p.lw ≡ 0 → (x y q : ℕ) → panel_pix p spec table lo x y q ≡ q
  unfolding panel_pix is_bare
  no_column e x y q = rw (eq-eqb p.lw 0 e)

  pub no_row : (p.lw ≡ 0 → ⊥) → p.lh ≡ 0 → (x y q : ℕ) → panel_pix p spec table lo x y q ≡ q
  unfolding panel_pix is_bare
  no_row n e x y q = rw (ne_eqb p.lw 0 n, eq-eqb p.lh 0 e)

  pub flat_way : (p.lw ≡ 0 → ⊥) → (p.lh ≡ 0 → ⊥) → is_flat p spec ≡ true → (x y q : ℕ) → flat_pix p lo x y ≡ panel_pix p spec table lo x y q
  unfolding panel_pix is_bare
  flat_way n m e x y q = rw (ne_eqb p.lw 0 n, ne_eqb p.lh 0 m, e)

  pub general_way : (p.lw ≡ 0 → ⊥) → (p.lh ≡ 0 → ⊥) → is_flat p spec ≡ false → (x y q : ℕ) → general_pix p table lo x y q ≡ panel_pix p spec table lo x y q
  unfolding panel_pix is_bare
  general_way n m e x y q = rw (ne_eqb p.lw 0 n, ne_eqb p.lh 0 m, e)
