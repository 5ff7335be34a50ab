-- Texts put one behind the other are one text; numbers are printed as std writes them, as far as they are small; and what
-- is printed has at most 80 bytes.
use Rattle.std.proofs.Common.{◌≡◌, ℕ, zero, suc, ◌+◌, ◌*◌, eqb, leb, ltb, ◌/◌, ◌%◌, ◌^◌, ◌-◌, ◌<◌, ◌≤◌, Bool, List, [], ◌∷◌, ◌++◌, length, length-append, append_assoc, add-one, get_or, take, drop, length-take-le, true, false, cond, refl, sym, ap, ◌∙◌, arith}
use lib.ListN.{set}
use borrow.Rule.Slice.PartMut.{put_mid, Post-is}
use lib.Seq.{sets, length-sets, sets-eq}
use native.Mathlib.Decide.{dec_lt}
use borrow.Author.Tests.{lt-ltb, le-ltb}
use Rattle.std.specs.Fmt.{digits, padded_integral, format_spec, decimal as std_decimal}
use Rattle.std.proofs.lemmas.Fmt.{decimal_digit, decimal_step, hex_byte}
use Rattle.color.specs.Color.{red, green, blue}
use Rattle.std.specs.Prelude.{codes, Ok, Err}
use Rattle.answer.specs.declared.Cause.{Cause}
use Rattle.answer.specs.declared.Cause.TheVariants.{Canvas, Sources, Rundown, Check, Form, Floats, Integers, Priority, Source, Frame, Scratch, Room, Absent, Pass, Bend, Next}
use Rattle.answer.specs.Answer.{Answer, number}
use Rattle.answer.specs.declared.Refusal.{Refusal}
use Rattle.playout.specs.Put.{Put}
use Rattle.playout.specs.Printed.{digit, decimal, byte, pixel, follow, pixels, refused, layers, told, played, printed}

-- ---- putting

sets_append : (l : List ℕ) (i : ℕ) (s t : List ℕ) → sets l i (s ++ t) ≡ sets (sets l i s) (i + length s) t
sets_append l i [] t = ap (λ (k : ℕ). sets l k t) (omega arith)
sets_append l i (a ∷ s) t = sets_append (set l i a) (suc i) s t ∙ ap (λ (k : ℕ). sets (sets (set l i a) (suc i) s) k t) (omega arith)

pub join : {s t l m n : List ℕ} {i j k : ℕ} → Put s l i m j → Put t m j n k → Put (s ++ t) l i n k
join {s} {t} {l} {m} {n} {i} {j} {k} p q =
    record {
      bytes = q.bytes ∙ ap (λ (b : List ℕ). sets b j t) p.bytes ∙ ap (λ (a : ℕ). sets (sets l i s) a t) p.end ∙ sym (sets_append l i s t);
      end = rw (length-append s t) (omega (arith, p.end, q.end));
    }

-- one byte, known by an equation
pub put_is : {b d : ℕ} {l m : List ℕ} {i j : ℕ} → b ≡ d → Put (b ∷ []) l i m j → Put (d ∷ []) l i m j
put_is e p = rw e at p

pub none : (l : List ℕ) (i : ℕ) → Put [] l i l i
none l i = record { bytes = refl; end = omega arith }

-- a text put at once, by a copy
pub copied : (t s l : List ℕ) (i : ℕ) → t ≡ s → i + length s ≤ length l → put_mid i (i + length s - i) l t ≡ sets l i s
copied t s l i e h =
    rw e
    (ap (λ (r : List ℕ). take i l ++ (s ++ r)) (Post-is i (i + length s) l (omega arith))
    ∙ sym (sets-eq s l i h ∙ append_assoc (take i l) s (drop (i + length s) l)))

-- the same text by another name
pub same : {s t l m : List ℕ} {i j : ℕ} → s ≡ t → Put s l i m j → Put t l i m j
same e p = rw e at p

-- a text at the front of the output
pub whole : {s l m : List ℕ} {k : ℕ} → length l ≡ 80 → length s ≤ 80 → Put s l 0 m k → (m ≡ s ++ drop k l) × ((k ≡ length s) × (k ≤ 80) × (k ≤ length m) × (k ≡ length (take k m)))
whole {s} {l} {m} {k} e h p =
    let q : k ≡ length s = omega (arith, p.end) in
    let n : length m ≡ length l = ap length p.bytes ∙ length-sets l 0 s in
    (p.bytes ∙ sets-eq s l 0 (omega arith) ∙ ap (λ (j : ℕ). s ++ drop j l) (sym p.end), (q, omega arith, omega arith, sym (length-take-le k m (omega arith))))

-- ---- numbers

digit_small : (d : ℕ) → d < 10 → digit d ≡ 48 + d
unfolding digit
digit_small d h = rw (lt-ltb d 10 h) refl

one : (n : ℕ) → n < 10 → decimal n ≡ std_decimal n
unfolding decimal
one n h = rw (lt-ltb n 10 h, digit_small n h, decimal_digit n h) refl

two : (n : ℕ) → 10 ≤ n → n < 100 → decimal n ≡ std_decimal n
unfolding decimal
two n l h =
    let a : n / 10 < 10 = omega arith in
    rw (le-ltb n 10 l, lt-ltb n 100 h, digit_small (n / 10) a, digit_small (n % 10) (omega arith), decimal_step n l (omega arith), decimal_digit (n / 10) a) refl

three : (n : ℕ) → 100 ≤ n → n < 1000 → decimal n ≡ std_decimal n
unfolding decimal
three n l h =
    let a : n / 100 < 10 = omega arith in
    let b : n / 10 / 10 ≡ n / 100 = omega arith in
    let c : n / 100 % 10 ≡ n / 100 = omega arith in
    rw (le-ltb n 10 (omega arith), le-ltb n 100 l, c, digit_small (n / 100) a, digit_small (n / 10 % 10) (omega arith), digit_small (n % 10) (omega arith), decimal_step n (omega arith) (omega arith), decimal_step (n / 10) (omega arith) (omega arith), b, decimal_digit (n / 100) a) refl

-- the same digits
pub decimal_small : (n : ℕ) → n < 1000 → decimal n ≡ std_decimal n
decimal_small n h = elim (dec_lt n 10) [
  | yes l ↦ one n l
  | no l ↦ elim (dec_lt n 100) [ yes m ↦ two n (omega (arith, l)) m | no m ↦ three n (omega (arith, m)) h ]
]

-- a byte in hexadecimal, with two digits
abbrev pub hex : ℕ → List ℕ
hex n = padded_integral (format_spec 32 0 4 2 (2 ^ 64 - 1)) false [] (digits 16 true n)

pub byte_hex : (n : ℕ) → n < 256 → byte n ≡ hex n
unfolding byte digit
byte_hex n h = sym (hex_byte true n h)

pub pixel_hex : (p : ℕ) → pixel p ≡ hex (red p) ++ (hex (green p) ++ hex (blue p))
unfolding pixel
pixel_hex p =
    rw (byte_hex (red p) (omega arith), byte_hex (green p) (omega arith), byte_hex (blue p) (omega arith)) (append_assoc (hex (red p)) (hex (green p)) (hex (blue p)))

-- ---- the lines

joined : (a b c d e : List ℕ) → a ++ b ++ c ++ d ++ e ≡ a ++ (b ++ (c ++ (d ++ e)))
joined a b c d e = simp append_assoc

pub refused_is : (cause block : ℕ) → cause < 1000 → block < 1000 → refused cause block ≡ codes "refused " ++ (std_decimal cause ++ (codes " block " ++ (std_decimal block ++ codes "\n")))
unfolding refused
refused_is cause block h l =
    rw (decimal_small cause h, decimal_small block l) (joined (codes "refused ") (std_decimal cause) (codes " block ") (std_decimal block) (codes "\n"))

line : (a b c d : List ℕ) → a ++ b ++ c ++ d ≡ (a ++ (b ++ c)) ++ d
line a b c d = simp append_assoc

pub layers_is : (n : ℕ) (cv : List ℕ) → n < 1000 → layers n cv ≡ (codes "layers " ++ (std_decimal n ++ codes "\n")) ++ pixels cv 8
unfolding layers
layers_is n cv h = rw (decimal_small n h) (line (codes "layers ") (std_decimal n) (codes "\n") (pixels cv 8))

pub number_small : (c : Cause) → number c < 1000
number_small Canvas = omega arith
number_small Sources = omega arith
number_small Rundown = omega arith
number_small Check = omega arith
number_small Form = omega arith
number_small Floats = omega arith
number_small Integers = omega arith
number_small Priority = omega arith
number_small Source = omega arith
number_small Frame = omega arith
number_small Scratch = omega arith
number_small Room = omega arith
number_small Absent = omega arith
number_small Pass = omega arith
number_small Bend = omega arith
number_small Next = omega arith

pub pixels_more : (cv : List ℕ) (i : ℕ) → pixels cv (i + 1) ≡ pixels cv i ++ (pixel (get_or cv i 0) ++ follow i)
unfolding pixels
pixels_more cv i = rw add-one refl

-- ---- play's answer

pub told_count : (a : Answer) (n : ℕ) (cv px : List ℕ) → a ≡ Ok n → px ≡ cv → layers n px ≡ told a cv
unfolding told
told_count a n cv px e f = rw (e, f) refl

pub told_refused : (a : Answer) (r : Refusal) (cv px : List ℕ) → a ≡ Err r → px ≡ cv → refused (number r.cause) r.beside ≡ told a cv
unfolding told
told_refused a r cv px e f = rw e refl

-- ---- what is printed has at most 80 bytes

choice : (b : Bool) (x y : List ℕ) (n : ℕ) → length x ≤ n → length y ≤ n → length (cond b x y) ≤ n
choice true x y n hx hy = hx
choice false x y n hx hy = hy

pub decimal_length : (n : ℕ) → length (decimal n) ≤ 3
unfolding decimal
decimal_length n = choice (ltb n 10) _ _ 3 (omega arith) (choice (ltb n 100) _ _ 3 (omega arith) (omega arith))

pub pixel_length : (p : ℕ) → length (pixel p) ≡ 6
unfolding pixel byte
pixel_length p = refl

pub follow_length : (i : ℕ) → length (follow i) ≤ 1
unfolding follow
follow_length i = choice (eqb (i % 4) 3) _ _ 1 (omega arith) (omega arith)

pub pixels_length : (cv : List ℕ) (n : ℕ) → length (pixels cv n) ≤ 7 * n
unfolding pixels
pixels_length cv zero = omega arith
pixels_length cv (suc n) =
    simp length-append
    (omega (arith, pixels_length cv n, pixel_length (get_or cv n 0), follow_length n))

pub refused_length : (cause block : ℕ) → length (refused cause block) ≤ 80
unfolding refused
refused_length cause block = simp length-append (omega (arith, decimal_length cause, decimal_length block))

pub layers_length : (n : ℕ) (cv : List ℕ) → length (layers n cv) ≤ 80
unfolding layers
layers_length n cv = simp length-append (omega (arith, decimal_length n, pixels_length cv 8))

told_length : (a : Answer) (cv : List ℕ) → length (told a cv) ≤ 80
unfolding told
told_length (Ok n) cv = layers_length n cv
told_length (Err r) cv = refused_length (number r.cause) r.beside

pub played_length : (input : List ℕ) → length (played input) ≤ 80
unfolding played
played_length input = told_length _ _

pub printed_length : (input : List ℕ) → length (printed input) ≤ 80
unfolding printed
printed_length input = choice (leb (length input) 65536) _ _ 80 (played_length input) (refused_length 3 0)
