-- The rows of a general panel: a pixel from the two columns of the picture that it lies between, and a row cut in three.
use Prim.Native.Nat.{ℕ, ◌+◌, ◌-◌, ◌*◌, ◌/◌, ◌%◌, ◌≤◌, ◌<◌, min}
use mathlib.Core.Path.{◌≡◌, refl, sym, ap, ap₂, ◌∙◌}
use mathlib.Core.Bool.{Bool, true, false, cond}
use mathlib.Core.List.{List, ◌++◌}
use Rattle.std.proofs.Common.{Some, None}
use native.Mathlib.Omega.{arith}
use lib.ListN.{length, take, drop, get_or}
use lib.Ieee.{Float, lt}
use Rattle.mathf.specs.Real as Real
use borrow.Author.Tests.{eq-eqb, ne_eqb}
use Rattle.canvas.specs.Rows.{map_row}
use Rattle.canvas.proofs.Laws.Rows.{Rowed}
use Rattle.canvas.proofs.Laws.Spans.{back, rowed_span, rowed_head}
use Rattle.panel.specs.declared.Panel.{Panel}
use Rattle.glass.specs.declared.general.Columns.{Columns}
use Rattle.glass.specs.declared.general.level.Shared.{Shared}
use Rattle.glass.specs.Places.{place, col_place, row_place, cell_at, pix_at}
use Rattle.panel.specs.Panel.{lit}
use Rattle.panel.specs.Rim.{depth, bends, bend, bent, seen, laid}
use Rattle.panel.specs.Private.{col_past, row_past, level, on_level}
use Rattle.panel.proofs.Level.{level_is}
use Rattle.glass.specs.General.{next, blend, soft_ch, soft, row_inside, col_inside, inside_pix, edge_col_place, edge_row_place, edge_pix, general_pix}
use Rattle.glass.specs.Private.{column_ch, AreColumns, between, Inside, level_seen, IsShared}

-- down and then across is across and then down
pub exchange : (s t a b c d : ℕ) → blend t (blend s a b) (blend s c d) ≡ blend s (blend t a c) (blend t b d)
exchange s t a b c d = omega arith

module _ (lo : List ℕ) (lw lh fx fy : ℕ) where
  pub soft_channel : (c l r : ℕ) → l ≡ column_ch lo lw lh fy (fx / 256) c → r ≡ column_ch lo lw lh fy (next lw fx) c → blend (fx % 256) l r / 65536 ≡ soft_ch lo lw lh fx fy c
  unfolding soft_ch
  soft_channel c l r el er =
      rw (el, er, exchange (fx % 256) (fy % 256) (get_or lo (cell_at lw (fx / 256) (fy / 256) + c) 0) (get_or lo (cell_at lw (next lw fx) (fy / 256) + c) 0) (get_or lo (cell_at lw (fx / 256) (next lh fy) + c) 0) (get_or lo (cell_at lw (next lw fx) (next lh fy) + c) 0))

pub from_columns : (p : Panel) (lo : List ℕ) (fx fy : ℕ) {k : Columns} → AreColumns lo p.lw p.lh fy (fx / 256) k → lit p (between k (fx % 256)) ≡ soft p lo fx fy
unfolding soft between
from_columns p lo fx fy {k} K =
    let l = K.left in
    let r = K.right in
    rw (
      soft_channel lo p.lw p.lh fx fy 0 k.left.r k.right.r l.r r.r,
      soft_channel lo p.lw p.lh fx fy 1 k.left.g k.right.g l.g r.g,
      soft_channel lo p.lw p.lh fx fy 2 k.left.b k.right.b l.b r.b,
    )

-- as the code takes it
pub soft_is : (p : Panel) (lo : List ℕ) (x y : ℕ) {fx fy m q : ℕ} {k : Columns} → fx ≡ col_place p x → fy ≡ row_place p y → AreColumns lo p.lw p.lh fy (fx / 256) k
    → m ≡ between k (fx % 256) → q ≡ lit p m → q ≡ soft p lo (col_place p x) (row_place p y)
soft_is p lo x y {fx} {fy} ex ey K em eq = eq ∙ ap (lit p) em ∙ from_columns p lo fx fy K ∙ rw (ex, ey)

-- ---- the inside of a panel

pub copied_pix : (p : Panel) (lo : List ℕ) (x y i row : ℕ) → p.k ≡ 1 → p.wx ≤ x → x - p.wx + i < p.lw → row ≡ min (y - p.wy) (p.lh - 1)
    → lit p (pix_at lo (cell_at p.lw (x - p.wx) row + i * 3)) ≡ inside_pix p lo (x + i) y
unfolding inside_pix
copied_pix p lo x y i row one h g e =
    let col : min (x + i - p.wx) (p.lw - 1) ≡ x - p.wx + i = omega arith in
    let cell : cell_at p.lw (x - p.wx + i) row ≡ cell_at p.lw (x - p.wx) row + i * 3 = omega arith in
    rw (eq-eqb p.k 1 one, col, ← e, cell)

pub soft_pix : (p : Panel) (lo : List ℕ) (x y : ℕ) → (p.k ≡ 1 → ⊥) → soft p lo (col_place p x) (row_place p y) ≡ inside_pix p lo x y
unfolding inside_pix
soft_pix p lo x y n = rw (ne_eqb p.k 1 n)

inside_is : (p : Panel) (table : List Float) (lo : List ℕ) (x y q : ℕ) → row_inside p y ≡ true → col_inside p x ≡ true → general_pix p table lo x y q ≡ inside_pix p lo x y
unfolding general_pix
inside_is p table lo x y q e f = rw (e, f)

-- ---- the rows above and below it

pub edge_is : (p : Panel) (table : List Float) (lo : List ℕ) (x y q : ℕ) → row_inside p y ≡ false → edge_pix p table lo x y q ≡ general_pix p table lo x y q
unfolding general_pix
edge_is p table lo x y q e = rw e

-- the bend is there just where the bezel bends
pub bent_some : (p : Panel) (table : List Float) (d : Float) {b : Float} → Some b ≡ bent p table d → (bends p d ≡ true) × (b ≡ bend table p.bezel d)
unfolding bent
bent_some p table d = go (bends p d)
  where
    go : (t : Bool) {b : Float} → Some b ≡ cond t (Some (bend table p.bezel d)) None → (t ≡ true) × (b ≡ bend table p.bezel d)
    go true e = (refl, cc)
    go false e = cc

pub bent_none : (p : Panel) (table : List Float) (d : Float) → None ≡ bent p table d → bends p d ≡ false
unfolding bent
bent_none p table d = go (bends p d)
  where
    go : (t : Bool) → None ≡ cond t (Some (bend table p.bezel d)) None → t ≡ false
    go true e = cc
    go false e = refl

level_seen_is : (p : Panel) (table : List Float) (y x : ℕ) → place p.k p.lw (level_seen p (bent p table (depth (level p y).sd)) x) ≡ edge_col_place p table (level p y) x
unfolding edge_col_place level bent level_seen
level_seen_is p table y x = go (bends p (depth (level p y).sd))
  where
    go : (t : Bool) → place p.k p.lw (level_seen p (cond t (Some (bend table p.bezel (depth (level p y).sd))) None) x)
        ≡ place p.k p.lw (cond t (seen p.wx x Real.zero (bend table p.bezel (depth (level p y).sd))) ((x - p.wx) * 256))
    go true = refl
    go false = refl

-- at a level pixel the row shares all but the place of the columns
module _ (p : Panel) (table : List Float) (lo : List ℕ) (x y q : ℕ) {v : Shared} (S : IsShared p table y v) (on : on_level (col_past p x) (row_past p y) ≡ true) where
  abbrev out : Bool
  out = lt Real.point_five v.sd

  test : {t : Bool} → out ≡ t → lt Real.point_five (level p y).sd ≡ t
  test e = ap (lt Real.point_five) (sym S.sd) ∙ e

  pub level_out : out ≡ true → q ≡ edge_pix p table lo x y q
  unfolding edge_pix
  level_out e = rw (level_is p x y on, test e)

  level_col : place p.k p.lw (level_seen p v.bend x) ≡ edge_col_place p table (level p y) x
  level_col = rw S.bend (level_seen_is p table y x)

  pub level_is_edge : {k : Columns} {fx m c o : ℕ} → out ≡ false
      → fx ≡ place p.k p.lw (level_seen p v.bend x)
      → AreColumns lo p.lw p.lh v.fy (fx / 256) k → m ≡ between k (fx % 256) → c ≡ lit p m → o ≡ laid v.cov c q → o ≡ edge_pix p table lo x y q
  unfolding edge_pix
  level_is_edge {k} {fx} {m} {c} {o} e ex K em ec eo =
      let colour : c ≡ soft p lo (edge_col_place p table (level p y) x) (edge_row_place p table (level p y) y) = ec ∙ ap (lit p) em ∙ from_columns p lo fx v.fy K ∙ ap₂ (soft p lo) (ex ∙ level_col) S.fy in
      eo ∙ rw (level_is p x y on, test e) (ap₂ (λ (i j : ℕ). laid i j q) S.cov colour)

-- a row in three: the edge, the inside, the edge
module _ (p : Panel) (table : List Float) (lo : List ℕ) (x y : ℕ) where
  abbrev rule : ℕ → ℕ → ℕ
  rule i q = general_pix p table lo (x + i) y q

  pub three : {l u v z : List ℕ} {a b : ℕ} → row_inside p y ≡ true → Inside p x a b → a ≤ b → b ≤ length l
      → u ≡ map_row rule (take a l)
      → v ≡ map_row (λ i q. inside_pix p lo (x + a + i) y) (take (b - a) (drop a (u ++ drop a l)))
      → z ≡ map_row (λ i q. general_pix p table lo (x + b + i) y q) (take (length l - b) (drop b (back a b (u ++ drop a l) v)))
      → Rowed rule l (back b (length l) (back a b (u ++ drop a l) v) z) (length l)
  three {l} {u} {v} {z} {a} {b} e C h g eu ev ez =
      let one : Rowed rule l (u ++ drop a l) a = rowed_head a (omega arith) eu in
      let two : Rowed rule l (back a b (u ++ drop a l) v) b =
      rowed_span (λ i q. inside_pix p lo (x + a + i) y) b one h (omega (arith, one.long))
      (λ i q k. let at : x + (a + i) ≡ x + a + i = omega arith in rw (← at) (inside_is p table lo (x + (a + i)) y q e (C.is (a + i) (omega arith) k))) ev in
      rowed_span (λ i q. general_pix p table lo (x + b + i) y q) (length l) two g (omega (arith, two.long))
      (λ i q _. let at : x + (b + i) ≡ x + b + i = omega arith in rw at) ez
