-- A root grows with its square, and a place a pixel or more from the edge is wholly covered or not at all.
use Prim.Native.Nat.{ℕ, zero, suc, ◌+◌, ◌-◌, ◌*◌, ◌^◌, ◌≤◌, ◌<◌, zero-le}
use mathlib.Core.Path.{◌≡◌, refl, sym, ap, ◌∙◌, subst}
use mathlib.Core.Logic.{◌⊎◌, inl, inr}
use mathlib.Core.Bool.{Bool, true, false, not, cond, ◌&&◌, ◌||◌}
use native.Mathlib.Nat.{le_trans, le_of_eq, le_of_lt, lt_of_lt_of_le, lt_irrefl, mul_comm, mul_assoc, mul_left_comm, mul_right_comm, mul-pos, mul-add, add-mul, mul-sub, mul-le-mul, mul-le-mul_right, mul-le-mul_left, le_of_mul-le-mul_right, mul-lt-mul_of_pos_right, pow-suc, zero-lt-suc}
use native.Mathlib.Decide.{dec_lt}
use native.Mathlib.Omega.{arith}
use lib.IntN.{ℤ, pos, negsuc}
use lib.Dec.{T, ltb, ltb→lt, lt→ltb}
use lib.Pow.{pow_pos, pow_mono}
use lib.Ieee.{Float, nan, inf, fin, Format, binary32, prec, emax, low, up, down, fits, of_bits, odd, units, round, neg, unlike, sum, add, sub, mul, lt, le, eq, is_nan, to_unsigned}
use lib.Ieee.Bits.{is_true, is_false}
use lib.Ieee.Fits.{down_pos, up_pos, round_is, and_l, and_r, add-fits, mul-fits}
use lib.Ieee.Exact.{HasValue}
use lib.Ieee.Order.{le_of_values, round_mono}
use lib.Ieee.Positive.{above_of_le, le→cross}
use Rattle.mathf.specs.Real as Real
use Rattle.mathf.specs.Real.{saturate, clamp, point_five}
use Rattle.mathf.specs.Sqrt.{NearestRoot, Root, SqrtIs, sqrt_of}
use Rattle.mathf.proofs.Laws.Grid.{by_ltb}
use Rattle.mathf.proofs.Laws.Order.{le_lt}
use Rattle.mathf.proofs.Laws.Root.{sqrt_is}
use Rattle.mathf.proofs.Laws.Self.{round_self, neg_round}
use Rattle.mathf.proofs.Laws.Tests.{yes as passed, below_no_nan, not_lt, or_l, le_from'}
use Rattle.mathf.proofs.Squares.{root_le, root_ge}
use Rattle.geom.specs.declared.Rect.{Rect}
use Rattle.edge.specs.Edge.{full, cov8, corner_sd}
use Rattle.edge.specs.declared.Away.{Away}
use Rattle.edge.specs.Corner.{plain, far, apart, squared, away, col_axis, Within, Beyond, Deep, Far, Run, Same}

-- ---- the order of the floats
irreflexive : (x : Float) → T (lt x x) → ⊥
unfolding lt
irreflexive nan h = h
irreflexive (inf true) h = h
irreflexive (inf false) h = h
irreflexive (fin true m e) h = lt_irrefl (m * up e * down e) (ltb→lt (m * up e * down e) (m * up e * down e) h)
irreflexive (fin false m e) h = lt_irrefl (m * up e * down e) (ltb→lt (m * up e * down e) (m * up e * down e) h)

pub numbers : (x y : Float) → T (le x y) → T (not (is_nan x)) × T (not (is_nan y))
unfolding le lt eq is_nan
numbers nan y h = absurd h
numbers (inf s) nan h = absurd h
numbers (inf s) (inf t) h = (tt, tt)
numbers (inf s) (fin t n d) h = (tt, tt)
numbers (fin s m e) nan h = absurd h
numbers (fin s m e) (inf t) h = (tt, tt)
numbers (fin s m e) (fin t n d) h = (tt, tt)

sure : (b : Bool) → (T (not b) → ⊥) → T b
sure true f = tt
sure false f = f tt

never : (b : Bool) → (T b → ⊥) → T (not b)
never true f = f tt
never false f = tt

pub lt_le : (x y z : Float) → T (lt x y) → T (le y z) → T (lt x z)
lt_le x y z p q = sure (lt x z) (λ n. irreflexive y (le_lt y z y q (le_lt z x y (not_lt x z (below_no_nan x y p) (numbers y z q).1 n) p)))

pub le_le : (x y z : Float) → T (le x y) → T (le y z) → T (le x z)
le_le x y z p q = not_lt z x (numbers y z q).1 (numbers x y p).0 (never (lt z x) (λ h. irreflexive x (le_lt x y x p (le_lt y z x q h))))

pub lt→le : (x y : Float) → T (lt x y) → T (le x y)
unfolding le
lt→le x y h = or_l (lt x y) (eq x y) h

-- ---- a root grows with its square
nearest_le : (n m q k : ℕ) → NearestRoot n q → NearestRoot m k → n ≤ m → q ≤ k
nearest_le n m q k a b h = elim (dec_lt k q) [
  | yes l ↦ absurd (less l)
  | no l ↦ omega arith
]
  where
    done : (k + 1) * q ≡ k * q + 1 * q → k * (k + 1) ≡ k * k + k * 1 → (k + 1) * q ≤ q * q → k * (k + 1) ≤ k * q → m ≤ k * k + k → q * q < n + q → ⊥
    done e f x y u v = omega arith

    less : k < q → ⊥
    less l = done (add-mul k 1 q) (mul-add k k 1) (mul-le-mul_right q (omega arith)) (mul-le-mul_left k (omega arith)) b.below a.above

four : (t : ℕ) → 4 * (2 ^ t * 2 ^ t) ≤ 2 ^ suc t * 2 ^ suc t
four t = le_of_eq (go (2 ^ t) (2 ^ suc t) (pow-suc 2 t))
  where
    go : (p s : ℕ) → s ≡ p * 2 → 4 * (p * p) ≡ s * s
    go p s h = sym (ap (λ (z : ℕ). z * z) h ∙ simp (mul_assoc, mul_comm, mul_left_comm) (omega arith))

module _ (n m t u q k : ℕ) (N : NearestRoot n q) (M : NearestRoot m k) (most : n < 2 ^ 48) (least : 2 ^ 46 ≤ n) (most' : m < 2 ^ 48) (least' : 2 ^ 46 ≤ m) where
  low_scale : t < u → q * 2 ^ t ≤ k * 2 ^ u
  low_scale h = le_trans (mul-le-mul_right (2 ^ t) (root_le n q most N.above)) (le_trans (double (2 ^ t) (2 ^ suc t) (pow-suc 2 t)) (mul-le-mul (root_ge m k least' M.below) (pow_mono h)))
    where
      double : (p s : ℕ) → s ≡ p * 2 → 2 ^ 24 * p ≤ 2 ^ 23 * s
      double p s e = omega arith

  high_scale : u < t → n * (2 ^ t * 2 ^ t) ≤ m * (2 ^ u * 2 ^ u) → ⊥
  high_scale h l =
      let p = 2 ^ u * 2 ^ u in
      let r : 4 * p ≤ 2 ^ t * 2 ^ t = le_trans (four u) (mul-le-mul (pow_mono h) (pow_mono h)) in
      lt_irrefl (m * p) (lt_of_lt_of_le (mul-lt-mul_of_pos_right most' (mul-pos (pow_pos u) (pow_pos u))) (le_trans (le_of_eq (mul_assoc (2 ^ 46) 4 p)) (le_trans (mul-le-mul least r) l)))

  same_scale : t ≡ u → n * (2 ^ t * 2 ^ t) ≤ m * (2 ^ u * 2 ^ u) → q * 2 ^ t ≤ k * 2 ^ u
  same_scale e l =
      let g : n * (2 ^ u * 2 ^ u) ≤ m * (2 ^ u * 2 ^ u) = subst (λ (z : ℕ). n * (2 ^ z * 2 ^ z) ≤ m * (2 ^ u * 2 ^ u)) e l in
      subst (λ (z : ℕ). q * 2 ^ z ≤ k * 2 ^ u) (sym e) (mul-le-mul_right (2 ^ u) (nearest_le n m q k N M (le_of_mul-le-mul_right g (mul-pos (pow_pos u) (pow_pos u)))))

  scaled_le : n * (2 ^ t * 2 ^ t) ≤ m * (2 ^ u * 2 ^ u) → q * 2 ^ t ≤ k * 2 ^ u
  scaled_le l = elim (dec_lt t u) [
    | yes h ↦ low_scale h
    | no h ↦ elim (dec_lt u t) [
      | yes g ↦ absurd (high_scale g l)
      | no g ↦ same_scale (omega arith) l
    ]
  ]

two_roots : (num den num' den' : ℕ) (a b : Float) → 0 < den → 0 < den' → Root num den a → Root num' den' b → num * den' ≤ num' * den → T (le a b)
two_roots num den num' den' a b D D' A B h =
    let K = 2 ^ 98 * 2 ^ 98 in
    let P = A.n * (2 ^ A.t * 2 ^ A.t) in
    let U = B.n * (2 ^ B.t * 2 ^ B.t) in
    let l : P * den * den' ≤ U * den * den' =
    le_trans (le_of_eq (ap (λ (z : ℕ). z * den') (sym A.radicand) ∙ mul_right_comm num K den'))
    (le_trans (mul-le-mul_right K h) (le_of_eq (mul_right_comm num' den K ∙ ap (λ (z : ℕ). z * den) B.radicand ∙ mul_right_comm U den' den))) in
    le_of_values a b (A.q * 2 ^ A.t) (2 ^ 98) (B.q * 2 ^ B.t) (2 ^ 98) (pow_pos 98) (pow_pos 98) A.value B.value
    (mul-le-mul_right (2 ^ 98) (scaled_le A.n B.n A.t B.t A.q B.q A.nearest B.nearest A.most A.least B.most B.least
    (le_of_mul-le-mul_right (le_of_mul-le-mul_right l D') D)))

under_inf : (a : Float) (n c : ℕ) → HasValue a false n c → T (le a (inf false))
unfolding le lt
under_inf nan n c v = absurd v
under_inf (inf s) n c v = absurd v
under_inf (fin s m e) n c v = tt

roots_le : (s t a b : Float) → SqrtIs s a → SqrtIs t b → T (not (is_nan b)) → T (plain s) → T (le s t) → T (le a b)
unfolding le lt eq is_nan
roots_le nan t a b p q o f h = absurd f
roots_le (inf true) t a b p q o f h = absurd f
roots_le (inf false) nan a b p q o f h = absurd h
roots_le (inf false) (inf true) a b p q o f h = absurd h
roots_le (inf false) (inf false) a b p q o f h = rw (p, q) tt
roots_le (inf false) (fin t n d) a b p q o f h = absurd h
roots_le (fin true m e) t a b p q o f h = absurd f
roots_le (fin false m e) nan a b p q o f h = absurd h
roots_le (fin false m e) (inf true) a b p q o f h = absurd h
roots_le (fin false zero e) (inf false) a b p q o f h = rw (p, q) tt
roots_le (fin false zero e) (fin true zero d) a b p q o f h = rw (p, q) h
roots_le (fin false zero e) (fin false zero d) a b p q o f h = rw (p, q) h
roots_le (fin false zero e) (fin true (suc n) d) a b p q o f h = absurd (rw q at o)
roots_le (fin false zero e) (fin false (suc n) d) a b p q o f h =
    rw p (le_of_values (fin false zero e) b 0 1 (q.q * 2 ^ q.t) (2 ^ 98) (pow_pos 0) (pow_pos 98) (refl, none (up e) (down e)) q.value zero-le)
  where
    none : (v w : ℕ) → 0 * v * 1 ≡ 0 * w
    none v w = omega arith
roots_le (fin false (suc m) e) (inf false) a b p q o f h = rw q (under_inf a (p.q * 2 ^ p.t) (2 ^ 98) p.value)
roots_le (fin false (suc m) e) (fin true n d) a b p q o f h = absurd (above_of_le (fin false (suc m) e) (fin true n d) (lt→ltb 0 (suc m) (zero-lt-suc m)) h)
roots_le (fin false (suc m) e) (fin false zero d) a b p q o f h = absurd (above_of_le (fin false (suc m) e) (fin false zero d) (lt→ltb 0 (suc m) (zero-lt-suc m)) h)
roots_le (fin false (suc m) e) (fin false (suc n) d) a b p q o f h =
    two_roots (suc m * up e) (down e) (suc n * up d) (down d) a b (down_pos e) (down_pos d) p q (le→cross (fin false (suc m) e) (fin false (suc n) d) (lt→ltb 0 (suc m) (zero-lt-suc m)) (lt→ltb 0 (suc n) (zero-lt-suc n)) h)

pub root_grows : (s t : Float) → T (fits binary32 s) → T (fits binary32 t) → T (not (is_nan (sqrt_of t))) → T (plain s) → T (le s t) → T (le (sqrt_of s) (sqrt_of t))
root_grows s t f g o p h = roots_le s t (sqrt_of s) (sqrt_of t) (sqrt_is s f) (sqrt_is t g) o p h

value_plain : (a : Float) (n c : ℕ) → HasValue a false n c → T (plain a)
value_plain nan n c v = absurd v
value_plain (inf s) n c v = absurd v
value_plain (fin s m e) n c v = rw v.0 tt

plain_is : (s a : Float) → SqrtIs s a → T (plain s) → T (plain a)
plain_is nan a p f = absurd f
plain_is (inf true) a p f = absurd f
plain_is (inf false) a p f = rw p tt
plain_is (fin true m e) a p f = absurd f
plain_is (fin false zero e) a p f = rw p tt
plain_is (fin false (suc m) e) a p f = value_plain a (p.q * 2 ^ p.t) (2 ^ 98) p.value

pub root_plain : (s : Float) → T (fits binary32 s) → T (plain s) → T (plain (sqrt_of s))
root_plain s f p = plain_is s (sqrt_of s) (sqrt_is s f) p

pub plain_number : (s : Float) → T (plain s) → T (not (is_nan s))
unfolding is_nan
plain_number nan h = absurd h
plain_number (inf s) h = tt
plain_number (fin s m e) h = tt

-- ---- differences
less : (f : Format) (a b c : ℕ) → b ≤ a → sum f false a true b c ≡ round f false (a - b) c
unfolding sum
less f a b c h = by_ltb a b (λ t. cond t (round f true (b - a) c) (round f false (a - b) c) ≡ round f false (a - b) c) (λ g. absurd (both g)) (λ g. refl)
  where
    both : a < b → ⊥
    both g = omega arith

more : (f : Format) (a b c : ℕ) → a < b → sum f false a true b c ≡ neg (round f false (b - a) c)
unfolding sum
more f a b c h = by_ltb a b (λ t. cond t (round f true (b - a) c) (round f false (a - b) c) ≡ neg (round f false (b - a) c)) (λ g. sym (neg_round f false (b - a) c)) (λ g. absurd (both g))
  where
    both : b ≤ a → ⊥
    both g = omega arith

backed : (a b c : ℕ) → b < a → sum binary32 true a false b c ≡ neg (sum binary32 false a true b c)
unfolding sum
backed a b c h = first ∙ sym (neg_round binary32 false (a - b) c) ∙ ap neg (sym (less binary32 a b c (le_of_lt h)))
  where
    both : a < b → ⊥
    both g = omega arith

    first : cond (ltb a b) (round binary32 false (b - a) c) (round binary32 (ltb b a) (a - b) c) ≡ round binary32 true (a - b) c
    first =
        by_ltb a b (λ t. cond t (round binary32 false (b - a) c) (round binary32 (ltb b a) (a - b) c) ≡ round binary32 true (a - b) c)
        (λ g. absurd (both g)) (λ g. ap (λ (t : Bool). round binary32 t (a - b) c) (is_true (ltb b a) (lt→ltb b a h)))

-- two floats whose sign is clear
module _ (m n : ℕ) (d e : ℤ) where
  le_cross : T (le (fin false m d) (fin false n e)) → m * up d * down e ≤ n * up e * down d
  unfolding le lt eq
  le_cross h = le_from' (m * up d * down e) (n * up e * down d) h

  lt_cross : T (lt (fin false m d) (fin false n e)) → m * up d * down e < n * up e * down d
  unfolding lt
  lt_cross h = ltb→lt (m * up d * down e) (n * up e * down d) h

  difference : T (le (fin false m d) (fin false n e)) → sub binary32 (fin false n e) (fin false m d) ≡ round binary32 false (n * up e * down d - m * up d * down e) (down e * down d)
  unfolding sub add neg
  difference h = less binary32 (n * up e * down d) (m * up d * down e) (down e * down d) (le_cross h)

  turned : T (lt (fin false m d) (fin false n e)) → sub binary32 (fin false m d) (fin false n e) ≡ neg (sub binary32 (fin false n e) (fin false m d))
  turned h = go (more binary32 (m * up d * down e) (n * up e * down d) (down d * down e) (lt_cross h))
    where
      go : sum binary32 false (m * up d * down e) true (n * up e * down d) (down d * down e) ≡ neg (round binary32 false (n * up e * down d - m * up d * down e) (down d * down e))
          → sub binary32 (fin false m d) (fin false n e) ≡ neg (sub binary32 (fin false n e) (fin false m d))
      go g = opened ∙ g ∙ ap (λ (c : ℕ). neg (round binary32 false (n * up e * down d - m * up d * down e) c)) (mul_comm (down d) (down e)) ∙ ap neg (sym (difference (lt→le (fin false m d) (fin false n e) h)))
        where
          opened : sub binary32 (fin false m d) (fin false n e) ≡ sum binary32 false (m * up d * down e) true (n * up e * down d) (down d * down e)
          opened = unfold sub add neg in refl

minus : (p q r s : ℕ) → p ≤ r → q ≡ s → p - q ≤ r - s
minus p q r s h e = omega arith

minus' : (p q r s : ℕ) → p ≡ r → s ≤ q → p - q ≤ r - s
minus' p q r s e h = omega arith

spread : (a b c : ℕ) → (a - b) * c ≡ c * a - c * b
spread a b c = mul_comm (a - b) c ∙ mul-sub c a b

-- X / E - K / F grows with X / E, and K / F - X / E shrinks
grow : (I J K D E F : ℕ) → I * E ≤ J * D → (I * F - K * D) * (E * F) ≤ (J * F - K * E) * (D * F)
grow I J K D E F h =
    let a : E * F * (I * F) ≤ D * F * (J * F) = simp (mul_assoc, mul_left_comm) (simp mul_assoc at (mul-le-mul_right (F * F) h)) in
    let b : E * F * (K * D) ≡ D * F * (K * E) = simp (mul_assoc, mul_comm, mul_left_comm) in
    le_trans (le_of_eq (spread (I * F) (K * D) (E * F))) (le_trans (minus (E * F * (I * F)) (E * F * (K * D)) (D * F * (J * F)) (D * F * (K * E)) a b) (le_of_eq (sym (spread (J * F) (K * E) (D * F)))))

shrink : (I J K D E F : ℕ) → I * E ≤ J * D → (K * E - J * F) * (F * D) ≤ (K * D - I * F) * (F * E)
shrink I J K D E F h =
    let a : F * E * (I * F) ≤ F * D * (J * F) = simp (mul_assoc, mul_comm, mul_left_comm) (simp mul_assoc at (mul-le-mul_right (F * F) h)) in
    let b : F * D * (K * E) ≡ F * E * (K * D) = simp (mul_assoc, mul_comm, mul_left_comm) in
    le_trans (le_of_eq (spread (K * E) (J * F) (F * D))) (le_trans (minus' (F * D * (K * E)) (F * D * (J * F)) (F * E * (K * D)) (F * E * (I * F)) b a) (le_of_eq (sym (spread (K * D) (I * F) (F * E)))))

-- x at most y: by fields
module _ (i j k : ℕ) (d e f : ℤ) (h : T (le (fin false i d) (fin false j e))) where
  -- z ≤ x ≤ y
  fin_up : T (le (fin false k f) (fin false i d)) → T (le (sub binary32 (fin false i d) (fin false k f)) (sub binary32 (fin false j e) (fin false k f)))
  fin_up l =
      rw (difference k i f d l, difference k j f e (le_le (fin false k f) (fin false i d) (fin false j e) l h))
      (round_mono binary32 _ (down d * down f) _ (down e * down f) (mul-pos (down_pos d) (down_pos f)) (mul-pos (down_pos e) (down_pos f)) (grow (i * up d) (j * up e) (k * up f) (down d) (down e) (down f) (le_cross i j d e h)))

  -- x ≤ y ≤ z
  fin_down : T (le (fin false j e) (fin false k f)) → T (le (sub binary32 (fin false k f) (fin false j e)) (sub binary32 (fin false k f) (fin false i d)))
  fin_down l =
      rw (difference j k e f l, difference i k d f (le_le (fin false i d) (fin false j e) (fin false k f) h l))
      (round_mono binary32 _ (down f * down e) _ (down f * down d) (mul-pos (down_pos f) (down_pos e)) (mul-pos (down_pos f) (down_pos d)) (shrink (i * up d) (j * up e) (k * up f) (down d) (down e) (down f) (le_cross i j d e h)))

-- ---- which are finite
record Plain (x : Float) : Type 0 where
  m : ℕ
  e : ℤ
  is : x ≡ fin false m e

finite : (x y : Float) → T (plain x) → T (lt x y) → Plain x
unfolding lt
finite nan y p h = absurd p
finite (inf true) y p h = absurd p
finite (inf false) nan p h = absurd h
finite (inf false) (inf t) p h = absurd h
finite (inf false) (fin t n d) p h = absurd h
finite (fin true m e) y p h = absurd p
finite (fin false m e) y p h = record { m = m; e = e; is = refl }

above_plain : (x y : Float) → T (plain x) → T (lt x y) → T (plain y)
unfolding lt
above_plain nan y p h = absurd p
above_plain (inf true) y p h = absurd p
above_plain (inf false) nan p h = absurd h
above_plain (inf false) (inf t) p h = absurd h
above_plain (inf false) (fin t n d) p h = absurd h
above_plain (fin true m e) y p h = absurd p
above_plain (fin false m e) nan p h = absurd h
above_plain (fin false m e) (inf t) p h = h
above_plain (fin false m e) (fin true n d) p h = absurd h
above_plain (fin false m e) (fin false n d) p h = tt

pub positive_plain : (x : Float) → T (lt Real.zero x) → T (plain x)
unfolding of_bits
positive_plain x h = above_plain Real.zero x tt h

at_most_inf : (g : Float) → T (not (is_nan g)) → T (le g (inf false))
unfolding le lt eq is_nan
at_most_inf nan h = absurd h
at_most_inf (inf true) h = tt
at_most_inf (inf false) h = tt
at_most_inf (fin s m e) h = tt

-- ---- a root up to b lies inside the circle by what b does, and one from b on outside
abbrev Inside : Float → Float → Float → Float → Type 0
Inside a b r g = T (le a b) → T (lt b r) → T (le g (sub binary32 r b)) → (sub binary32 a r ≡ neg (sub binary32 r a)) × T (le g (sub binary32 r a))

inside_fin : (i j k : ℕ) (d e f : ℤ) (g : Float) → Inside (fin false i d) (fin false j e) (fin false k f) g
inside_fin i j k d e f g p q l = (
  turned i k d f (le_lt (fin false i d) (fin false j e) (fin false k f) p q),
  le_le g (sub binary32 (fin false k f) (fin false j e)) (sub binary32 (fin false k f) (fin false i d)) l (fin_down i j k d e f p (lt→le (fin false j e) (fin false k f) q)),
)

module _ (a b r g top : Float) where
  pub inside : T (plain a) → T (plain b) → T (le a b) → T (lt b r) → T (lt r top) → T (le g (sub binary32 r b)) → (sub binary32 a r ≡ neg (sub binary32 r a)) × T (le g (sub binary32 r a))
  inside pa pb p q t l =
      let A = finite a r pa (le_lt a b r p q) in
      let B = finite b r pb q in
      let R = finite r top (above_plain b r pb q) t in
      subst (λ (z : Float). Inside z b r g) (sym A.is)
      (subst (λ (z : Float). Inside (fin false A.m A.e) z r g) (sym B.is)
      (subst (λ (z : Float). Inside (fin false A.m A.e) (fin false B.m B.e) z g) (sym R.is) (inside_fin A.m B.m R.m A.e B.e R.e g)))
      p q l

abbrev Outside : Float → Float → Float → Float → Type 0
Outside a b r g = T (le b a) → T (lt r b) → T (le g (sub binary32 b r)) → T (le g (sub binary32 a r))

outside_fin : (a : Float) → T (plain a) → (j k : ℕ) (e f : ℤ) (g : Float) → Outside a (fin false j e) (fin false k f) g
outside_fin nan pa j k e f g p q l = absurd pa
outside_fin (inf true) pa j k e f g p q l = absurd pa
outside_fin (inf false) pa j k e f g p q l = unfold sub add neg in at_most_inf g (numbers g (sub binary32 (fin false j e) (fin false k f)) l).0
outside_fin (fin true i d) pa j k e f g p q l = absurd pa
outside_fin (fin false i d) pa j k e f g p q l =
    le_le g (sub binary32 (fin false j e) (fin false k f)) (sub binary32 (fin false i d) (fin false k f)) l (fin_up j i k e d f p (lt→le (fin false k f) (fin false j e) q))

module _ (a b r g top : Float) where
  pub outside : T (plain a) → T (plain r) → T (le b a) → T (lt r b) → T (lt b top) → T (le g (sub binary32 b r)) → T (le g (sub binary32 a r))
  outside pa pr p q t l =
      let R = finite r b pr q in
      let B = finite b top (above_plain r b pr q) t in
      subst (λ (z : Float). Outside a z r g) (sym B.is)
      (subst (λ (z : Float). Outside a (fin false B.m B.e) z g) (sym R.is) (outside_fin a pa B.m R.m B.e R.e g))
      p q l

-- ---- a half less what is below -1, and less what is above 1
above_one : (n d : ℕ) → 1 * 1 * d ≤ n * 1 → 3 * (2 * d) ≤ (1 * 1 * d + n * 2) * 2
above_one n d h = omega arith

half_more : (w : Float) → T (le (fin false 1 (pos 0)) w) → T (lt (fin false 1 (pos 0)) (sub binary32 (fin false 1 (negsuc 0)) (neg w)))
unfolding sub add neg is_nan
half_more nan h = absurd (numbers (fin false 1 (pos 0)) nan h).1
half_more (inf true) h = unfold le lt eq in absurd h
half_more (inf false) h = unfold lt in tt
half_more (fin true n d) h = absurd (above_of_le (fin false 1 (pos 0)) (fin true n d) tt h)
half_more (fin false n d) h =
    lt_le (fin false 1 (pos 0)) (round binary32 false 3 2) (round binary32 false (1 * 1 * down d + n * up d * 2) (2 * down d)) (unfold lt round in tt)
    (round_mono binary32 3 2 (1 * 1 * down d + n * up d * 2) (2 * down d) (pow_pos 1) (mul-pos (pow_pos 1) (down_pos d)) (above_one (n * up d) (down d) (le_cross 1 n (pos 0) d h)))

negative : (w : Float) → T (le (round binary32 false 1 2) w) → T (lt (neg w) (fin false 0 (pos 0)))
unfolding neg lt round is_nan
negative nan h = absurd (numbers (fin false 1 (negsuc 0)) nan h).1
negative (inf true) h = unfold le lt eq in absurd h
negative (inf false) h = tt
negative (fin true n d) h = absurd (above_of_le (fin false 1 (negsuc 0)) (fin true n d) tt h)
negative (fin false n d) h = lt→ltb 0 (n * up d * 1 + 0 * 1 * down d) (some (mul-pos (ltb→lt 0 n (above_of_le (fin false 1 (negsuc 0)) (fin false n d) tt h)) (up_pos d)))
  where
    some : 0 < n * up d → 0 < n * up d * 1 + 0 * 1 * down d
    some g = omega arith

half_less : (w : Float) → T (le (fin false 1 (pos 0)) w) → T (lt (sub binary32 (fin false 1 (negsuc 0)) w) (fin false 0 (pos 0)))
unfolding sub add neg is_nan
half_less nan h = absurd (numbers (fin false 1 (pos 0)) nan h).1
half_less (inf true) h = unfold le lt eq in absurd h
half_less (inf false) h = unfold lt in tt
half_less (fin true n d) h = absurd (above_of_le (fin false 1 (pos 0)) (fin true n d) tt h)
half_less (fin false n d) h =
    let l : 1 * 1 * down d ≤ n * up d * 1 = le_cross 1 n (pos 0) d h in
    rw (more binary32 (1 * 1 * down d) (n * up d * 2) (2 * down d) (over (n * up d) (down d) (down_pos d) l))
    (negative (round binary32 false (n * up d * 2 - 1 * 1 * down d) (2 * down d))
    (round_mono binary32 1 2 (n * up d * 2 - 1 * 1 * down d) (2 * down d) (pow_pos 1) (mul-pos (pow_pos 1) (down_pos d)) (room (n * up d) (down d) l)))
  where
    over : (p q : ℕ) → 0 < q → 1 * 1 * q ≤ p * 1 → 1 * 1 * q < p * 2
    over p q o g = omega arith

    room : (p q : ℕ) → 1 * 1 * q ≤ p * 1 → 1 * (2 * q) ≤ (p * 2 - 1 * 1 * q) * 2
    room p q g = omega arith

-- ---- coverage
saturate_one : (v : Float) → T (lt Real.one v) → saturate v ≡ Real.one
unfolding saturate clamp
saturate_one v h = rw (is_false (lt v Real.zero) (never (lt v Real.zero) (λ g. low (le_lt Real.one v Real.zero (lt→le Real.one v h) g))), is_true (lt Real.one v) h)
  where
    low : T (lt Real.one Real.zero) → ⊥
    low g = unfold lt of_bits in g

saturate_zero : (v : Float) → T (lt v Real.zero) → saturate v ≡ Real.zero
unfolding saturate clamp
saturate_zero v h = rw (is_true (lt v Real.zero) h)

-- what covers a pixel at the distance d, where d is -1 or less, and where it is 1 or more
pub sat_deep : (w : Float) → T (le Real.one w) → saturate (sub binary32 point_five (neg w)) ≡ Real.one
sat_deep w h = saturate_one (sub binary32 point_five (neg w)) (unfold of_bits in half_more w h)

pub sat_far : (d : Float) → T (le Real.one d) → saturate (sub binary32 point_five d) ≡ Real.zero
sat_far d h = saturate_zero (sub binary32 point_five d) (unfold of_bits in half_less d h)

pub deep_cov : (w : Float) → T (le Real.one w) → cov8 (neg w) ≡ 255
unfolding cov8
deep_cov w h = ap (λ (v : Float). to_unsigned 32 (add binary32 (mul binary32 v full) point_five)) (sat_deep w h) ∙ (unfold of_bits mul add to_unsigned in refl)

pub far_cov : (d : Float) → T (le Real.one d) → cov8 d ≡ 0
unfolding cov8
far_cov d h = ap (λ (v : Float). to_unsigned 32 (add binary32 (mul binary32 v full) point_five)) (sat_far d h) ∙ (unfold of_bits mul add to_unsigned in refl)

-- ---- the square of a distance has no sign
odd_plain : (d q k l : ℕ) → T (plain (odd d false q k l))
unfolding odd
odd_plain d zero k l = tt
odd_plain d (suc q) k l = tt

units_plain : (f : Format) (q k : ℕ) → T (plain (units f false q k))
unfolding units
units_plain f q k = go (ltb (q * 2 ^ k) (2 ^ (low f + suc (emax f))))
  where
    go : (b : Bool) → T (plain (cond b (odd (suc (prec f)) false q k (low f)) (inf false)))
    go true = odd_plain (suc (prec f)) q k (low f)
    go false = tt

round_plain : (f : Format) (a c : ℕ) → T (plain (round f false a c))
round_plain f a c = subst (λ (y : Float). T (plain y)) (sym (round_is f false a c)) (units_plain f _ _)

square_plain : (x : Float) → T (not (is_nan x)) → T (plain (mul binary32 x x))
unfolding mul is_nan
square_plain nan h = absurd h
square_plain (inf true) h = tt
square_plain (inf false) h = tt
square_plain (fin true m e) h = round_plain binary32 (m * up e * (m * up e)) (down e * down e)
square_plain (fin false m e) h = round_plain binary32 (m * up e * (m * up e)) (down e * down e)

sum_plain : (x y : Float) → T (plain x) → T (plain y) → T (plain (add binary32 x y))
unfolding add sum
sum_plain nan y p q = absurd p
sum_plain (inf true) y p q = absurd p
sum_plain (inf false) nan p q = absurd q
sum_plain (inf false) (inf true) p q = absurd q
sum_plain (inf false) (inf false) p q = tt
sum_plain (inf false) (fin t n d) p q = tt
sum_plain (fin true m e) y p q = absurd p
sum_plain (fin false m e) nan p q = absurd q
sum_plain (fin false m e) (inf true) p q = absurd q
sum_plain (fin false m e) (inf false) p q = tt
sum_plain (fin false m e) (fin true n d) p q = absurd q
sum_plain (fin false m e) (fin false n d) p q = round_plain binary32 (m * up e * down d + n * up d * down e) (down e * down d)

pub squared_plain : (qx qy : Float) → T (lt Real.zero qx) → T (lt Real.zero qy) → T (plain (squared qx qy))
squared_plain qx qy h k =
    sum_plain (mul binary32 qx qx) (mul binary32 qy qy)
    (square_plain qx (plain_number qx (positive_plain qx h))) (square_plain qy (plain_number qy (positive_plain qy k)))

-- ---- a product with zero
module _ (t : Bool) (n : ℕ) (d : ℤ) where
  none : (p q : ℕ) → 0 * 1 * p ≡ q * (0 * 1) * 1
  none p q = omega arith

  none' : (p q : ℕ) → 0 * 1 * p ≡ 0 * 1 * q * 1
  none' p q = omega arith

  pub zero_times : mul binary32 (fin false 0 (pos 0)) (fin t n d) ≡ fin (unlike false t) 0 (pos 0)
  unfolding mul
  zero_times = round_self binary32 (unlike false t) 0 (pos 0) (0 * 1 * (n * up d)) (1 * down d) (unfold fits in tt) (mul-pos (pow_pos 0) (down_pos d)) (none' (1 * down d) (n * up d))

  pub times_zero : mul binary32 (fin t n d) (fin false 0 (pos 0)) ≡ fin (unlike t false) 0 (pos 0)
  unfolding mul
  times_zero = round_self binary32 (unlike t false) 0 (pos 0) (n * up d * (0 * 1)) (down d * 1) (unfold fits in tt) (mul-pos (down_pos d) (pow_pos 0)) (none (down d * 1) (n * up d))

-- ---- v less than w, taken from it
back_fin : (w : Float) → T (plain w) → (k : ℕ) (f : ℤ) → T (lt (fin false k f) w) → add binary32 (neg w) (fin false k f) ≡ neg (sub binary32 w (fin false k f))
unfolding add neg sub
back_fin nan p k f h = absurd p
back_fin (inf true) p k f h = absurd p
back_fin (inf false) p k f h = refl
back_fin (fin true i d) p k f h = absurd p
back_fin (fin false i d) p k f h = backed (i * up d * down f) (k * up f * down d) (down d * down f) (lt_cross k i f d h)

pub back_off : (w v top : Float) → T (plain v) → T (lt v w) → T (lt v top) → add binary32 (neg w) v ≡ neg (sub binary32 w v)
back_off w v top p h l =
    let k = finite v top p l in
    subst (λ (z : Float). T (lt z w) → add binary32 (neg w) z ≡ neg (sub binary32 w z)) (sym k.is) (back_fin w (above_plain v w p h) k.m k.e) h

-- ---- what the code finds out

-- no number is up to a NaN, or from one on
pub none_up_to : (s : Float) → T (le s nan) → ⊥
none_up_to s h = unfold is_nan in (numbers s nan h).1

pub none_from : (s : Float) → T (le nan s) → ⊥
none_from s h = unfold is_nan in (numbers nan s h).0

pub within : {b u : Float} → u ≡ sqrt_of (mul binary32 b b) → le u b ≡ true → Within b (mul binary32 b b)
within {b} e h =
    let t = mul binary32 b b in
    let q : T (le (sqrt_of t) b) = passed (rw e at h) in
    record { is = λ s g p l. le_le (sqrt_of s) (sqrt_of t) b (root_grows s t g (mul-fits binary32 b b) (numbers (sqrt_of t) b q).0 p l) q }

pub beyond : {b u : Float} → u ≡ sqrt_of (mul binary32 b b) → le b u ≡ true → Beyond b (mul binary32 b b)
beyond {b} e h =
    let t = mul binary32 b b in
    let q : T (le b (sqrt_of t)) = passed (rw e at h) in
    record { is = λ s g p l. le_le b (sqrt_of t) (sqrt_of s) q (root_grows t s (mul-fits binary32 b b) g (plain_number (sqrt_of s) (root_plain s g p)) (square_plain b (numbers b (sqrt_of t) q).0) l) }

record Parts (a b g : Float) : Type 0 where
  first : T (lt Real.zero a)
  order : T (lt a b)
  last : T (lt b far)
  gap : T (le g (sub binary32 b a))

parts : (a b g : Float) → apart a b g ≡ true → Parts a b g
unfolding apart
parts a b g e =
    let t = passed e in
    let u = and_l (lt Real.zero a && lt a b && lt b far) (le g (sub binary32 b a)) t in
    let v = and_l (lt Real.zero a && lt a b) (lt b far) u in
    record {
      first = and_l (lt Real.zero a) (lt a b) v;
      order = and_r (lt Real.zero a) (lt a b) v;
      last = and_r (lt Real.zero a && lt a b) (lt b far) u;
      gap = and_r (lt Real.zero a && lt a b && lt b far) (le g (sub binary32 b a)) t;
    }

pub deep : {r g b t : Float} → apart b r g ≡ true → Within b t → Deep r g t
deep {r} {g} {b} h w =
    let k = parts b r g h in
    record { is = λ s f p l. inside (sqrt_of s) b r g far (root_plain s f p) (positive_plain b k.first) (w.is s f p l) k.order k.last k.gap }

pub far_off : {r g b t : Float} → apart r b g ≡ true → Beyond b t → Far r g t
far_off {r} {g} {b} h w =
    let k = parts r b g h in
    record { is = λ s f p l. outside (sqrt_of s) b r g far (root_plain s f p) (positive_plain r k.first) (w.is s f p l) k.order k.last k.gap }

-- w is g or more, and v less than g by 1 or more
pub hollow : (w v g : Float) → apart v g Real.one ≡ true → T (le g w) → (add binary32 (neg w) v ≡ neg (sub binary32 w v)) × T (le Real.one (sub binary32 w v))
hollow w v g h l =
    let k = parts v g Real.one h in
    let p = positive_plain v k.first in
    let m = lt_le v g w k.order l in (
      back_off w v w p m m,
      outside w g v Real.one far (above_plain v w p m) p l k.order k.last k.gap,
    )

pub run_none : {rect : Rect} {r qy : Float} {k : Away} {x i n : ℕ} → Run rect r qy k x i n i
run_none = record { first = omega arith; last = λ h. h; is = λ j h l. absurd (omega arith) }

pub run_more : {rect : Rect} {r qy : Float} {k : Away} {x i n e : ℕ} → Run rect r qy k x i n e → e < n → away k (col_axis rect r (x + e)) qy ≡ true → Run rect r qy k x i n (e + 1)
run_more {rect} {r} {qy} {k} {x} {i} {n} {e} inv h a = record {
  first = omega (arith, inv.first);
  last = λ l. omega arith;
  is = λ j l m. elim (dec_lt j e) [
    | yes lo ↦ inv.is j l lo
    | no hi ↦ let q : j ≡ e = omega arith in rw q a
  ];
}

or_either : (p q : Bool) → p || q ≡ true → (p ≡ true) ⊎ (q ≡ true)
or_either true q h = inl refl
or_either false q h = inr h

-- the coverage of a pixel that is away
pub away_same : {C : Float → ℕ} {v : ℕ} {k : Away} {r qy : Float} → Same C v r qy k → T (lt Real.zero qy) → (qx : Float) → away k qx qy ≡ true → C (corner_sd qx qy r) ≡ v
unfolding away corner_sd
away_same {C} {v} {k} {r} {qy} w h qx e = go (lt Real.zero qx) refl
  where
    s : Float
    s = squared qx qy

    go : (b : Bool) → lt Real.zero qx ≡ b → C (corner_sd qx qy r) ≡ v
    go true t = rw (t, is_true (lt Real.zero qy) h) (elim (or_either (le s k.low) (le k.high s) (rw t at e)) [
      | inl u ↦ w.low s (add-fits binary32 (mul binary32 qx qx) (mul binary32 qy qy)) (squared_plain qx qy (passed t) h) (passed u)
      | inr u ↦ w.high s (add-fits binary32 (mul binary32 qx qx) (mul binary32 qy qy)) (squared_plain qx qy (passed t) h) (passed u)
    ])
    go false t =
        let g : lt qy qx ≡ false = is_false (lt qy qx) (never (lt qy qx) (λ m. rw t at (le_lt Real.zero qy qx (lt→le Real.zero qy h) m))) in
        rw (t, g) (w.flat (rw t at e))
