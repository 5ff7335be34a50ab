-- Rows with runs, two or four pixels to a cell: where the runs begin, their pixels from the columns of the picture, and a row cut in three.
use Prim.Native.Nat.{ℕ, ◌+◌, ◌-◌, ◌*◌, ◌/◌, ◌%◌, ◌≤◌, ◌<◌, min}
use mathlib.Core.Path.{◌≡◌, refl, sym, ap, ap₂, ◌∙◌, subst}
use mathlib.Core.Bool.{Bool, true, false}
use mathlib.Core.List.{List, ◌++◌}
use Rattle.std.proofs.Common.{Option, Some, None}
use Rattle.std.specs.Option.{IfSome}
use native.Mathlib.Nat.{mul-le-mul_right, add-zero}
use native.Mathlib.Omega.{arith}
use lib.ListN.{length, take, drop, get_or, set}
use Rattle.color.specs.Color.{red, green, blue, pack, mix_ch, mix_pix}
use Rattle.color.proofs.Laws.{mix_ch_bound}
use Rattle.canvas.specs.Rows.{map_row, below}
use Rattle.canvas.proofs.Laws.Rows.{Rowed, rowed_more, rowed_end, get_d-map_row, map_row_same, map_row_then, below_in}
use Rattle.canvas.proofs.Laws.Spans.{back, part_long, rowed_span, rowed_head}
use Rattle.panel.specs.declared.Panel.{Panel}
use Rattle.panel.specs.Panel.{lit}
use Rattle.glass.specs.declared.Runs.{Runs}
use Rattle.glass.specs.declared.general.Columns.{Columns}
use Rattle.glass.specs.Places.{place, col_place, row_place, cell_at, pix_at}
use Rattle.glass.specs.Flat.{column, across, flat_pix}
use Rattle.glass.specs.General.{next, blend, soft_ch, soft}
use Rattle.glass.specs.Private.{Clear, Even, by_two, by_four, Fit, row_pix, levels, spot_ch, spot_pix, run_pix, Low, IsLine, line_pix, line_run, Small, between}
use Rattle.glass.proofs.Means.{of_bytes, of_means}
use Rattle.glass.proofs.Sizes.{clear_map}
use Rattle.glass.proofs.SoftRow.{soft_channel}

-- ---- numbers of pixels and cells, for either width

split : {k : ℕ} → Even k → (i j : ℕ) → j < k → ((i * k + j) / k ≡ i) × ((i * k + j) % k ≡ j)
split by_two i j h = (omega arith, omega arith)
split by_four i j h = (omega arith, omega arith)

below_run : {k : ℕ} → Even k → (i n : ℕ) → i < n * k → i / k < n
below_run by_two i n h = omega arith
below_run by_four i n h = omega arith

run_place : {k : ℕ} → Even k → (n m i : ℕ) → m + i / k + 1 < n → place k n ((m * k + k / 2 + i) * 256) ≡ (m + i / k) * 256 + (i % k * 256 + 128) / k
unfolding place
run_place by_two n m i h = omega arith
run_place by_four n m i h = omega arith

-- between two columns of cells
run_weight : {k : ℕ} → Even k → (i : ℕ) → (i % k * 256 + 128) / k ≤ 256
run_weight by_two i = omega arith
run_weight by_four i = omega arith

-- a run further on
run_later : {k : ℕ} → Even k → (a i : ℕ) → ((a * k + i) / k ≡ a + i / k) × ((a * k + i) % k ≡ i % k)
run_later by_two a i = (omega arith, omega arith)
run_later by_four a i = (omega arith, omega arith)

pub part_wide : {k : ℕ} → Even k → (a e : ℕ) → e * k - a * k ≡ (e - a) * k
part_wide by_two a e = omega arith
part_wide by_four a e = omega arith

run_part : {k : ℕ} → Even k → (m i : ℕ) → (((m + i / k) * 256 + (i % k * 256 + 128) / k) / 256 ≡ m + i / k) × (((m + i / k) * 256 + (i % k * 256 + 128) / k) % 256 ≡ (i % k * 256 + 128) / k)
run_part by_two m i = (omega arith, omega arith)
run_part by_four m i = (omega arith, omega arith)

run_room : {k : ℕ} → Even k → (n lead most : ℕ) → lead ≤ n → lead + min ((n - lead) / k) most * k ≤ n
run_room by_two n lead most h = omega arith
run_room by_four n lead most h = omega arith

-- the runs of a row, and their first one
pub fit : {p : Panel} {x n : ℕ} {s : Runs} (k : ℕ) {lead : ℕ} → (s ≡ record { lead = lead; m = (x - p.wx + lead) / k; count = min ((n - lead) / k) (p.lw - 1 - (x - p.wx + lead) / k) }) × (1 ≤ s.count)
    → Even k → p.k ≡ k → p.wx ≤ x → lead ≤ n → x - p.wx + lead ≡ (x - p.wx + lead) / k * k + k / 2 → Fit p x n s
fit {p} {x} {n} {s} k {lead} f E e h g start =
    let m : ℕ = (x - p.wx + lead) / k in
    let some = rw f.0 at f.1 in
    rw f.0
    (record {
      even = rw e E;
      from = h;
      start = rw e start;
      room = rw e (run_room E n lead (p.lw - 1 - m) g);
      cells = omega (arith, some);
    })

pub runs_fit : (k : ℕ) (p : Panel) (x n : ℕ) (o : Option Runs) (lead : ℕ)
    → IfSome o (λ s. (s ≡ record { lead = lead; m = (x - p.wx + lead) / k; count = min ((n - lead) / k) (p.lw - 1 - (x - p.wx + lead) / k) }) × (1 ≤ s.count))
    → Even k → p.k ≡ k → p.wx ≤ x → lead ≤ n → x - p.wx + lead ≡ (x - p.wx + lead) / k * k + k / 2 → IfSome o (Fit p x n)
runs_fit k p x n o lead F E e h g start = go o F
  where
    go : (o : Option Runs) → IfSome o (λ s. (s ≡ record { lead = lead; m = (x - p.wx + lead) / k; count = min ((n - lead) / k) (p.lw - 1 - (x - p.wx + lead) / k) }) × (1 ≤ s.count)) → IfSome o (Fit p x n)
    go (Some s) F = fit k F E e h g start
    go None F = F

pub runs_there : {p : Panel} {x n : ℕ} {o : Option Runs} {s : Runs} → o ≡ Some s → IfSome o (Fit p x n) → Fit p x n s
runs_there e F = rw e at F

-- ---- a pixel of a run

-- of a flat panel: mixed down and then across, rounded down twice
pack_parts : (r g b : ℕ) → r < 256 → g < 256 → b < 256 → (red (pack r g b) ≡ r) × (green (pack r g b) ≡ g) × (blue (pack r g b) ≡ b)
pack_parts r g b h k m = (omega arith, omega arith, omega arith)

mix_is : (a b t : ℕ) → t ≤ 256 → mix_pix a b t ≡ pack (mix_ch t (red a) (red b)) (mix_ch t (green a) (green b)) (mix_ch t (blue a) (blue b))
unfolding mix_pix
mix_is a b t h = let e : min t 256 ≡ t = omega arith in rw e

mix_parts : (a b t : ℕ) → t ≤ 256 → (red (mix_pix a b t) ≡ mix_ch t (red a) (red b)) × (green (mix_pix a b t) ≡ mix_ch t (green a) (green b)) × (blue (mix_pix a b t) ≡ mix_ch t (blue a) (blue b))
mix_parts a b t h =
    rw (mix_is a b t h)
    (pack_parts (mix_ch t (red a) (red b)) (mix_ch t (green a) (green b)) (mix_ch t (blue a) (blue b))
    (mix_ch_bound t (red a) (red b) h (omega arith) (omega arith)) (mix_ch_bound t (green a) (green b) h (omega arith) (omega arith)) (mix_ch_bound t (blue a) (blue b) h (omega arith) (omega arith)))

two_levels : (x y t : ℕ) → (x * (256 - t) + y * t) / 256 ≡ (x * 256 * (256 - t) + y * 256 * t) / 65536
two_levels x y t = omega arith

flat_ch : (s t a b c d : ℕ) → mix_ch t (mix_ch s a b) (mix_ch s c d) ≡ blend t (levels true (blend s a b)) (levels true (blend s c d)) / 65536
unfolding mix_ch
flat_ch s t a b c d = two_levels (blend s a b / 256) (blend s c d / 256) t

module _ (lo : List ℕ) (byte : (i : ℕ) → get_or lo i 0 < 256) where
  pix_parts : (o : ℕ) → (red (pix_at lo o) ≡ get_or lo (o + 0) 0) × (green (pix_at lo o) ≡ get_or lo (o + 1) 0) × (blue (pix_at lo o) ≡ get_or lo (o + 2) 0)
  pix_parts o = rw add-zero (pack_parts (get_or lo o 0) (get_or lo (o + 1) 0) (get_or lo (o + 2) 0) (byte o) (byte (o + 1)) (byte (o + 2)))

  abbrev down : ℕ → ℕ → ℕ → ℕ → ℕ
  down lw fy x c = mix_ch (fy % 256) (get_or lo (cell_at lw x (fy / 256) + c) 0) (get_or lo (cell_at lw x (fy / 256 + 1) + c) 0)

  column_parts : (lw fy x : ℕ) → (red (column lo lw fy x) ≡ down lw fy x 0) × (green (column lo lw fy x) ≡ down lw fy x 1) × (blue (column lo lw fy x) ≡ down lw fy x 2)
  unfolding column
  column_parts lw fy x =
      let t : ℕ = fy % 256 in
      let a = pix_parts (cell_at lw x (fy / 256)) in
      let b = pix_parts (cell_at lw x (fy / 256 + 1)) in
      let m = mix_parts (pix_at lo (cell_at lw x (fy / 256))) (pix_at lo (cell_at lw x (fy / 256 + 1))) t (omega arith) in
      (m.0 ∙ ap₂ (mix_ch t) a.0 b.0, m.1 ∙ ap₂ (mix_ch t) a.1 b.1, m.2 ∙ ap₂ (mix_ch t) a.2 b.2)

  flat_spot : (lw lh fy x t : ℕ) → t ≤ 256 → fy / 256 + 1 < lh → mix_pix (column lo lw fy x) (column lo lw fy (x + 1)) t ≡ spot_pix lo lw lh true fy x t
  unfolding spot_pix
  flat_spot lw lh fy x t h g =
      let e : next lh fy ≡ fy / 256 + 1 = omega arith in
      let l = column_parts lw fy x in
      let r = column_parts lw fy (x + 1) in
      let ch : (c : ℕ) → mix_ch t (down lw fy x c) (down lw fy (x + 1) c) ≡ spot_ch lo lw lh true fy x t c = λ c. rw e (flat_ch (fy % 256) t _ _ _ _) in
      mix_is (column lo lw fy x) (column lo lw fy (x + 1)) t h
      ∙ rw (ap₂ (mix_ch t) l.0 r.0 ∙ ch 0, ap₂ (mix_ch t) l.1 r.1 ∙ ch 1, ap₂ (mix_ch t) l.2 r.2 ∙ ch 2)

-- of another: rounded down once
soft_spot : (p : Panel) (lo : List ℕ) (fx fy : ℕ) → fx / 256 + 1 < p.lw → soft p lo fx fy ≡ lit p (spot_pix lo p.lw p.lh false fy (fx / 256) (fx % 256))
unfolding soft spot_pix
soft_spot p lo fx fy h =
    let e : next p.lw fx ≡ fx / 256 + 1 = omega arith in
    let ch : (c : ℕ) → soft_ch lo p.lw p.lh fx fy c ≡ spot_ch lo p.lw p.lh false fy (fx / 256) (fx % 256) c = λ c. sym (soft_channel lo p.lw p.lh fx fy c _ _ refl (rw e)) in
    rw (ch 0, ch 1, ch 2)

module _ (p : Panel) (lo : List ℕ) (x y : ℕ) where
  -- the place of a run's pixel
  abbrev spot : ℕ → ℕ → ℕ
  spot m i = (m + i / p.k) * 256 + (i % p.k * 256 + 128) / p.k

  run_at : (m lead i : ℕ) → Even p.k → p.wx ≤ x → x - p.wx + lead ≡ m * p.k + p.k / 2 → m + i / p.k + 1 < p.lw → col_place p (x + (lead + i)) ≡ spot m i
  run_at m lead i E h g b = let at : x + (lead + i) - p.wx ≡ m * p.k + p.k / 2 + i = omega arith in rw at (run_place E p.lw m i b)

  run_flat : (m i : ℕ) → ((j : ℕ) → get_or lo j 0 < 256) → Even p.k → row_place p y / 256 + 1 < p.lh → lit p (across lo p.lw (spot m i) (row_place p y)) ≡ run_pix p lo true (row_place p y) m i
  unfolding across run_pix
  run_flat m i byte E n =
      let part = run_part E m i in
      rw (part.0, part.1) (ap (lit p) (flat_spot lo byte p.lw p.lh (row_place p y) (m + i / p.k) _ (run_weight E i) n))

  run_soft : (m i : ℕ) → Even p.k → m + i / p.k + 1 < p.lw → soft p lo (spot m i) (row_place p y) ≡ run_pix p lo false (row_place p y) m i
  unfolding run_pix
  run_soft m i E b =
      let part = run_part E m i in
      rw (part.0, part.1) at (soft_spot p lo (spot m i) (row_place p y) (rw part.0 b))

  run_pix_lem : (flat : Bool) (m lead i : ℕ) → ((j : ℕ) → get_or lo j 0 < 256) → (flat ≡ true → row_place p y / 256 + 1 < p.lh) → Even p.k → p.wx ≤ x
      → x - p.wx + lead ≡ m * p.k + p.k / 2 → m + i / p.k + 1 < p.lw → row_pix p lo flat (x + (lead + i)) y ≡ run_pix p lo flat (row_place p y) m i
  unfolding flat_pix
  run_pix_lem true m lead i byte n E h g b = rw (run_at m lead i E h g b) (run_flat m i byte E (n refl))
  run_pix_lem false m lead i byte n E h g b = rw (run_at m lead i E h g b) (run_soft m i E b)

  -- the pixels before the runs, the runs, and those after them
  pub three : (flat : Bool) {l u v z : List ℕ} (s : Runs) {fy : ℕ} → ((j : ℕ) → get_or lo j 0 < 256) → (flat ≡ true → row_place p y / 256 + 1 < p.lh) → Fit p x (length l) s → fy ≡ row_place p y
      → let to = s.lead + s.count * p.k in
      u ≡ map_row (λ i q. row_pix p lo flat (x + i) y) (take s.lead l)
      → v ≡ map_row (λ i q. run_pix p lo flat fy s.m i) (take (to - s.lead) (drop s.lead (u ++ drop s.lead l)))
      → z ≡ map_row (λ i q. row_pix p lo flat (x + to + i) y) (take (length l - to) (drop to (back s.lead to (u ++ drop s.lead l) v)))
      → Rowed (λ i q. row_pix p lo flat (x + i) y) l (back to (length l) (back s.lead to (u ++ drop s.lead l) v) z) (length l)
  three flat {l} {u} {v} {z} s {fy} byte n F ef eu ev ez =
      let all : ℕ → ℕ → ℕ = λ i q. row_pix p lo flat (x + i) y in
      let lead : ℕ = s.lead in
      let to : ℕ = lead + s.count * p.k in
      let room : to ≤ length l = F.room in
      let one : Rowed all l (u ++ drop lead l) lead = rowed_head lead (omega arith) eu in
      let two : Rowed all l (back lead to (u ++ drop lead l) v) to =
      rowed_span (λ i q. run_pix p lo flat fy s.m i) to one (omega arith) (omega (arith, one.long))
      (λ i q k. rw ef (run_pix_lem flat s.m lead i byte n F.even F.from F.start (omega (arith, F.cells, below_run F.even i s.count (omega arith))))) ev in
      rowed_span (λ i q. row_pix p lo flat (x + to + i) y) (length l) two room (omega (arith, two.long))
      (λ i q _. let at : x + (to + i) ≡ x + to + i = omega arith in rw at) ez

-- the part that is lent for the runs
pub lead_long : (f : ℕ → ℕ → ℕ) (l : List ℕ) {u : List ℕ} (lead to : ℕ) → lead ≤ to → to ≤ length l → u ≡ map_row f (take lead l)
    → length (take (to - lead) (drop lead (u ++ drop lead l))) ≡ to - lead
lead_long f l {u} lead to h g e =
    let R : Rowed f l (u ++ drop lead l) lead = rowed_head lead (omega arith) e in
    part_long (u ++ drop lead l) lead to h (omega (arith, R.long))

pub even_else : {k : ℕ} → Even k → (k ≡ 4 → ⊥) → k ≡ 2
even_else by_two n = refl
even_else by_four n = absurd (n refl)

pub even_some : {k : ℕ} → Even k → (1 ≤ k) × (k ≤ 4)
even_some by_two = (omega arith, omega arith)
even_some by_four = (omega arith, omega arith)

-- ---- the runs, part by part

pub at_index : {f : ℕ → ℕ → ℕ} {l r : List ℕ} {i j : ℕ} → Rowed f l r i → i ≡ j → Rowed f l r j
at_index {f} {l} {r} R e = subst (λ (k : ℕ). Rowed f l r k) e R

pub part_more : (p : Panel) (lo : List ℕ) (flat : Bool) (fy m at end : ℕ) {l r v : List ℕ} → Even p.k → Rowed (λ j q. run_pix p lo flat fy m j) l r (at * p.k) → at ≤ end → end * p.k ≤ length r
    → v ≡ map_row (λ j q. run_pix p lo flat fy (m + at) j) (take (end * p.k - at * p.k) (drop (at * p.k) r))
    → Rowed (λ j q. run_pix p lo flat fy m j) l (back (at * p.k) (end * p.k) r v) (end * p.k)
unfolding run_pix
part_more p lo flat fy m at end E R h room ev =
    rowed_span (λ j q. run_pix p lo flat fy (m + at) j) (end * p.k) R (mul-le-mul_right p.k h) room
    (λ j q _. let s = run_later E at j in let cell : m + (at + j / p.k) ≡ m + at + j / p.k = omega arith in rw (s.0, s.1, cell)) ev

pub run_end : (k : ℕ) {f : ℕ → ℕ → ℕ} {l r : List ℕ} {i count : ℕ} → Rowed f l r (i * k) → length l ≡ count * k → count ≤ i → r ≡ map_row f l
run_end k {f} {l} {r} {i} {count} R e h = let all : count * k ≤ i * k = mul-le-mul_right k h in rowed_end R (omega (arith, R.long))

-- ---- a line of columns

-- what one of the first n of a line is
pub first_at : (f : ℕ → ℕ → ℕ) (n : ℕ) (l : List ℕ) {r : List ℕ} → r ≡ map_row (below n f) l → (i : ℕ) → i < n → n ≤ length l → get_or r i 0 ≡ f i (get_or l i 0)
first_at f n l e i h g = ap (λ (t : List ℕ). get_or t i 0) e ∙ get_d-map_row (below n f) l i (omega arith) ∙ below_in n f i (get_or l i 0) h

levels_low : (flat : Bool) (v m : ℕ) → v ≤ m → levels flat v ≤ m
levels_low true v m h = omega arith
levels_low false v m h = h

-- the channels are the columns'
pub line_is : (lo : List ℕ) (lw lh fy m n : ℕ) (flat : Bool) {above below' t : ℕ} (l : List ℕ) {r : List ℕ} → ((i : ℕ) → get_or lo i 0 < 256) → n * 3 ≤ length l
    → above ≡ cell_at lw m (fy / 256) → below' ≡ cell_at lw m (next lh fy) → t ≡ fy % 256
    → r ≡ map_row (below (n * 3) (λ j q. levels flat (blend t (get_or lo (above + j) 0) (get_or lo (below' + j) 0)))) l
    → IsLine lo lw lh flat fy m n r
line_is lo lw lh fy m n flat {above} {below'} {t} l {r} byte room ea eb et e =
    let f : ℕ → ℕ → ℕ = λ j q. levels flat (blend t (get_or lo (above + j) 0) (get_or lo (below' + j) 0)) in
    record {
      low = record { is = λ j h. rw (first_at f (n * 3) l e j h room) (levels_low flat (blend t (get_or lo (above + j) 0) (get_or lo (below' + j) 0)) 65280 (of_bytes t (get_or lo (above + j) 0) (get_or lo (below' + j) 0) (omega arith) (byte (above + j)) (byte (below' + j)))) };
      is = λ x c h g.
          let up : above + (x * 3 + c) ≡ cell_at lw (m + x) (fy / 256) + c = omega arith in
          let low : below' + (x * 3 + c) ≡ cell_at lw (m + x) (next lh fy) + c = omega arith in
          first_at f (n * 3) l e (x * 3 + c) (omega arith) room ∙ rw (up, low, et);
    }

-- a pixel over a line
module _ {lo : List ℕ} {lw lh fy m n : ℕ} {flat : Bool} {line : List ℕ} (L : IsLine lo lw lh flat fy m (n + 1) line) where
  line_ch : (x c t u v : ℕ) → x < n → c < 3 → u ≡ x * 3 + c → v ≡ x * 3 + c + 3 → blend t (get_or line u 0) (get_or line v 0) / 65536 ≡ spot_ch lo lw lh flat fy (m + x) t c
  line_ch x c t u v h g eu ev =
      let next : v ≡ (x + 1) * 3 + c = omega arith in
      let cell : m + (x + 1) ≡ m + x + 1 = omega arith in
      rw (eu, next, L.is x c (omega arith) g, L.is (x + 1) c (omega arith) g, cell)

  line_spot : (x t : ℕ) → x < n → line_pix line x t ≡ spot_pix lo lw lh flat fy (m + x) t
  unfolding line_pix spot_pix
  line_spot x t h =
      rw (
        line_ch x 0 t (x * 3) (x * 3 + 3) h (omega arith) (omega arith) (omega arith),
        line_ch x 1 t (x * 3 + 1) (x * 3 + 4) h (omega arith) (omega arith) (omega arith),
        line_ch x 2 t (x * 3 + 2) (x * 3 + 5) h (omega arith) (omega arith) (omega arith),
      )

-- the mixed line with the brightness
pub part_is : (p : Panel) (lo : List ℕ) (flat : Bool) (fy m n : ℕ) {line : List ℕ} (l : List ℕ) {u v : List ℕ} → Even p.k → length l ≡ n * p.k → IsLine lo p.lw p.lh flat fy m (n + 1) line
    → u ≡ map_row (λ i q. line_run p.k line i) l → v ≡ map_row (λ i q. lit p q) u → v ≡ map_row (λ i q. run_pix p lo flat fy m i) l
unfolding line_run run_pix
part_is p lo flat fy m n {line} l E long L eu ev =
    ev ∙ ap (map_row (λ i q. lit p q)) eu ∙ map_row_then (λ i q. line_run p.k line i) (λ i q. lit p q) l
    ∙ map_row_same (λ i q. lit p (line_run p.k line i)) (λ i q. run_pix p lo flat fy m i) l
    (λ i h. ap (lit p) (line_spot L (i / p.k) _ (below_run E i n (omega arith))))

-- its pixels are clear
line_low : {k : ℕ} → Even k → (line : List ℕ) (n i : ℕ) → Low line ((n + 1) * 3) → i < n * k → line_run k line i < 16777216
unfolding line_run line_pix
line_low {k} E line n i L h =
    let x : ℕ = i / k in
    let t : ℕ = (i % k * 256 + 128) / k in
    let w = run_weight E i in
    let b = below_run E i n h in
    omega (
      arith,
      of_means t (get_or line (x * 3) 0) (get_or line (x * 3 + 3) 0) (w, L.is (x * 3) (omega arith), L.is (x * 3 + 3) (omega arith)),
      of_means t (get_or line (x * 3 + 1) 0) (get_or line (x * 3 + 4) 0) (w, L.is (x * 3 + 1) (omega arith), L.is (x * 3 + 4) (omega arith)),
      of_means t (get_or line (x * 3 + 2) 0) (get_or line (x * 3 + 5) 0) (w, L.is (x * 3 + 2) (omega arith), L.is (x * 3 + 5) (omega arith)),
    )

pub line_clear : {k : ℕ} → Even k → (n : ℕ) (l : List ℕ) {line r : List ℕ} → Low line ((n + 1) * 3) → length l ≡ n * k → r ≡ map_row (λ i q. line_run k line i) l → Clear r
line_clear {k} E n l {line} L long e = clear_map (λ i q. line_run k line i) l e (λ i q h. line_low E line n i L (omega arith))

-- ---- a run over a line

-- eight parts
pub eighths : (l r a b : ℕ) → a + b ≡ 8 → (l * a + r * b) / 2048 ≡ blend (b * 32) l r / 65536
eighths l r a b e = let rest : 256 - b * 32 ≡ a * 32 = omega arith in rw rest (omega arith)

pub eight_low : (l r a b : ℕ) → a + b ≡ 8 → l ≤ 65280 → r ≤ 65280 → l * a + r * b ≤ 522240
eight_low l r a b e h g =
    let first : l * a ≤ 65280 * a = mul-le-mul_right a h in
    let second : r * b ≤ 65280 * b = mul-le-mul_right b g in
    omega arith

abbrev pub ends_at : List ℕ → ℕ → Columns
ends_at line j =
    record {
      left = record { r = get_or line j 0; g = get_or line (j + 1) 0; b = get_or line (j + 2) 0 };
      right = record { r = get_or line (j + 3) 0; g = get_or line (j + 4) 0; b = get_or line (j + 5) 0 };
    }

pub ends_low : {line : List ℕ} {n : ℕ} {e : Columns} (i : ℕ) → Low line ((n + 1) * 3) → i < n → e ≡ ends_at line (i * 3) → Small e.left × Small e.right
ends_low i L h q =
    rw q (
      record { r = L.is (i * 3) (omega arith); g = L.is (i * 3 + 1) (omega arith); b = L.is (i * 3 + 2) (omega arith) },
      record { r = L.is (i * 3 + 3) (omega arith); g = L.is (i * 3 + 4) (omega arith); b = L.is (i * 3 + 5) (omega arith) },
    )

-- the parts of eight that pixel j of a run has of the right column
pub parts_of : {k : ℕ} → Even k → (j : ℕ) → j < k → ((2 * j + 1) * (4 / k) ≤ 8) × ((j * 256 + 128) / k ≡ (2 * j + 1) * (4 / k) * 32)
parts_of by_two j h = (omega arith, omega arith)
parts_of by_four j h = (omega arith, omega arith)

-- one store more: pixel j of run i
pub store : {k : ℕ} → Even k → (line : List ℕ) (i j t o' : ℕ) {l r : List ℕ} {o v : ℕ} {e : Columns} → Rowed (λ m q. line_run k line m) l r o → o ≡ i * k + j → j < k → o < length r → o' ≡ o + 1
    → (j * 256 + 128) / k ≡ t → e ≡ ends_at line (i * 3)
    → v ≡ between e t
    → Rowed (λ m q. line_run k line m) l (set r o v) o'
unfolding line_run line_pix between
store E line i j t o' R eo h room eo' et ee ev =
    let s = split E i j h in
    at_index (rowed_more R room (rw (ev, ee, eo, s.0, s.1, et))) (sym eo')
