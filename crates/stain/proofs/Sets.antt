-- Sets of pixels as Bools, and the bytes that show them.
use mathlib.Core.Path.{◌≡◌, refl, sym, ap, ◌∙◌}
use mathlib.Core.Bool.{Bool, true, false, ◌&&◌, ◌||◌}
use mathlib.Core.List.{List}
use Prim.Native.Nat.{ℕ, zero, suc, ◌+◌, ◌-◌, ◌*◌, ◌/◌, ◌%◌, ◌≤◌, ◌<◌}
use native.Mathlib.Decide.{dec_lt}
use native.Mathlib.Nat.{div-add-mod'}
use native.Mathlib.Numerals.{add-one}
use native.Mathlib.Omega.{arith}
use borrow.Author.Tests.{lt-ltb, le-ltb, le-leb, ltb-true, leb-true}
use lib.Arith.{digits_div, digits_mod}
use lib.Dec.{ltb, leb}
use lib.ListN.{length, get_or, take, drop}
use lib.Seq.{get_or-take, get_or-drop}
use Rattle.geom.proofs.Laws.{box, holds_box, both_true}
use Rattle.canvas.proofs.Laws.Canvas.{row_in}
use Rattle.canvas.proofs.Laws.Spans.{part_long}
use Rattle.taint.specs.Stain.{nonempty, inside, meets}
use Rattle.taint.proofs.Laws.Sets.{and_true, none_in}
use Rattle.stain.specs.Private.{shown}

or_true : (a : Bool) → a || true ≡ true
or_true true = refl
or_true false = refl

-- ---- a set that is not empty

one_in : (n : ℕ) (f : ℕ → Bool) (j : ℕ) → j < n → f j ≡ true → nonempty n f ≡ true
unfolding nonempty
one_in zero f j h e = absurd (omega arith)
one_in (suc n) f j h e = elim (dec_lt j n) [
  | yes l ↦ rw (one_in n f j l e) (or_true (f n))
  | no l ↦ let q : j ≡ n = omega arith in let g : f n ≡ true = rw q at e in rw g refl
]

not_in : (n : ℕ) (f : ℕ → Bool) → ((j : ℕ) → j < n → f j ≡ false) → nonempty n f ≡ false
unfolding nonempty
not_in zero f e = refl
not_in (suc n) f e = rw (e n (omega arith), not_in n f (λ j l. e j (omega arith))) refl

pub same_in : (n : ℕ) (f g : ℕ → Bool) → ((j : ℕ) → j < n → f j ≡ g j) → nonempty n f ≡ nonempty n g
unfolding nonempty
same_in zero f g e = refl
same_in (suc n) f g e = rw (e n (omega arith), same_in n f g (λ j l. e j (omega arith))) refl

found_in : (n : ℕ) (f : ℕ → Bool) → nonempty n f ≡ true → (j : ℕ) × ((j < n) × (f j ≡ true))
unfolding nonempty
found_in zero f e = let z : ◌≡◌ {A = ℕ} 0 1 = cc in absurd (omega arith)
found_in (suc n) f e = go (f n) refl (λ q. found_in n f q)
  where
    go : (t : Bool) → f n ≡ t → (nonempty n f ≡ true → (j : ℕ) × ((j < n) × (f j ≡ true))) → (j : ℕ) × ((j < suc n) × (f j ≡ true))
    go true q ih = (n, (omega arith, q))
    go false q ih = let r = ih (rw q at e) in (r.0, (omega (arith, r.1.0), r.1.1))

-- ---- the greatest byte of those passed is not 0 just where one of them is not

module _ (row : List ℕ) (most i : ℕ) (e : ltb 0 most ≡ nonempty i (shown row)) where
  pub any_take : most < get_or row i 0 → ltb 0 (get_or row i 0) ≡ nonempty (i + 1) (shown row)
  unfolding nonempty shown
  any_take h = let l : 0 < get_or row i 0 = omega arith in rw (add-one i, lt-ltb 0 (get_or row i 0) l) refl

  pub any_keep : get_or row i 0 ≤ most → ltb 0 most ≡ nonempty (i + 1) (shown row)
  unfolding nonempty shown
  any_keep h = elim (dec_lt 0 (get_or row i 0)) [
    | yes l ↦ let m : 0 < most = omega arith in rw (add-one i, lt-ltb 0 (get_or row i 0) l, lt-ltb 0 most m) refl
    | no l ↦ let m : get_or row i 0 ≤ 0 = omega arith in rw (add-one i, le-ltb 0 (get_or row i 0) m) e
  ]

-- ---- a window's rows

-- the rows of the window passed show nothing
pub record Clear (w h x0 y0 x1 y1 : ℕ) (map : List ℕ) (y : ℕ) : Type 0 where
  pub from : y0 ≤ y
  pub to : y ≤ y1
  pub nothing : (u v : ℕ) → x0 ≤ u → u < x1 → y0 ≤ v → v < y → shown map (v * w + u) ≡ false

module _ (w h x0 y0 x1 y1 : ℕ) (map : List ℕ) (size : length map ≡ h * w) (across : x0 ≤ x1) (right : x1 ≤ w) (bottom : y1 ≤ h) where
  -- the part of the map that is lent
  abbrev pub part : ℕ → List ℕ
  part y = take ((y * w + x1) - (y * w + x0)) (drop (y * w + x0) map)

  module _ (y : ℕ) (below : y < y1) where
    pub room : (y * w + x0 ≤ y * w + x1) × (y * w + x1 ≤ length map)
    room = (omega arith, omega (arith, row_in w h y x1 (omega arith) right))

    part_is : length (part y) ≡ (y * w + x1) - (y * w + x0)
    part_is = part_long map (y * w + x0) (y * w + x1) room.0 room.1

    part_at : (j : ℕ) → x0 + j < x1 → get_or (part y) j 0 ≡ get_or map (y * w + (x0 + j)) 0
    part_at j l =
        let e : y * w + x0 + j ≡ y * w + (x0 + j) = omega arith in
        get_or-take ((y * w + x1) - (y * w + x0)) (drop (y * w + x0) map) j 0 (omega arith) ∙ get_or-drop (y * w + x0) map j 0 ∙ ap (λ (m : ℕ). get_or map m 0) e

    -- a row that shows something: the window meets the stain
    pub row-meets : y0 ≤ y → nonempty (length (part y)) (shown (part y)) ≡ true → true ≡ meets w (length map) (box x0 y0 x1 y1) (shown map)
    unfolding meets shown
    row-meets l e =
        let r = found_in (length (part y)) (shown (part y)) e in
        let j : ℕ = r.0 in
        let in_row_lem : x0 + j < x1 = omega (arith, r.1.0, part_is) in
        let k : ℕ = y * w + (x0 + j) in
        let u : k % w ≡ x0 + j = digits_mod y (omega arith) in
        let v : k / w ≡ y = digits_div y (omega arith) in
        sym (one_in (length map) (λ j. inside w (box x0 y0 x1 y1) j && shown map j) k (omega (arith, room.1))
        (and_true (inside w (box x0 y0 x1 y1) k) (shown map k)
        (rw (u, v) (holds_box x0 y0 x1 y1 (x0 + j) y ∙ rw (le-leb x0 (x0 + j) (omega arith), lt-ltb (x0 + j) x1 in_row_lem, le-leb y0 y l, lt-ltb y y1 below) refl))
        (sym (ap (ltb 0) (part_at j in_row_lem)) ∙ r.1.1)))

    -- a row that shows nothing
    pub row-clear : Clear w h x0 y0 x1 y1 map y → nonempty (length (part y)) (shown (part y)) ≡ false → Clear w h x0 y0 x1 y1 map (y + 1)
    unfolding shown
    row-clear c e = record {
      from = omega (arith, c.from);
      to = omega arith;
      nothing = λ u v a b p q. elim (dec_lt v y) [
        | yes l ↦ c.nothing u v a b p l
        | no l ↦
            let m : v ≡ y = omega arith in
            let z : x0 + (u - x0) ≡ u = omega arith in
            let in_row_lem : x0 + (u - x0) < x1 = omega arith in
            rw m
            (sym (ap (ltb 0) (part_at (u - x0) in_row_lem ∙ ap (λ (i : ℕ). get_or map (y * w + i) 0) z))
            ∙ none_in (length (part y)) (shown (part y)) e (u - x0) (omega (arith, part_is)))
      ];
    }

  pub clear_start : y0 ≤ y1 → Clear w h x0 y0 x1 y1 map y0
  clear_start l = record { from = omega arith; to = l; nothing = λ u v a b c d. absurd (omega arith) }

  outside : (y : ℕ) → Clear w h x0 y0 x1 y1 map y → y1 ≤ y → (j : ℕ) (t : Bool) → inside w (box x0 y0 x1 y1) j ≡ t → (t && shown map j) ≡ false
  outside y c l j false e = refl
  outside y c l j true e =
      let f = both_true _ _ (sym (holds_box x0 y0 x1 y1 (j % w) (j / w)) ∙ e) in
      let g = both_true (leb x0 (j % w)) (ltb (j % w) x1) f.0 in
      let i = both_true (leb y0 (j / w)) (ltb (j / w) y1) f.1 in
      ap (shown map) (sym (div-add-mod' j w))
      ∙ c.nothing (j % w) (j / w) (leb-true _ _ g.0) (ltb-true _ _ g.1) (leb-true _ _ i.0) (omega (arith, ltb-true (j / w) y1 i.1))

  pub clear_all : (y : ℕ) → Clear w h x0 y0 x1 y1 map y → y1 ≤ y → false ≡ meets w (length map) (box x0 y0 x1 y1) (shown map)
  unfolding meets
  clear_all y c l = sym (not_in (length map) (λ j. inside w (box x0 y0 x1 y1) j && shown map j) (λ j k. outside y c l j (inside w (box x0 y0 x1 y1) j) refl))
