-- Cause 5: the kinds, and which bytes and flag bits each uses. All others are zero.
use Rattle.std.specs.Prelude.{ℕ, ◌+◌, Bool, false, cond, not, ◌&&◌, ◌||◌, List, [], ◌∷◌, leb, ltb, eqb, get_or}
use Rattle.std.specs.Int.Bits.{bit_and}
use Rattle.block.specs.Bytes.{byte, every}
use Rattle.block.specs.Layout.{Field, span, kind, flags, priority, source, x, y, width, height, border, tag, paint, rect, radius, blur, colour, saturation, brightness, bezel, spec, alpha, dim, float_alpha, time, target, stroke_width, table, clip, second, numbers, check, at}
use Rattle.block.specs.Fields as Fields

-- what a paint adds: 0 solid, 1 VGrad y0, y1, 2 Linear p0, p1, 3 Radial centre, radius
abbrev gradient : ℕ → List Field
gradient p =
    cond (eqb p 1) (second ∷ numbers 2 ∷ [])
    (cond (eqb p 2) (second ∷ numbers 4 ∷ [])
    (cond (eqb p 3) (second ∷ numbers 3 ∷ []) []))

-- the fields of kind k, with paint p
unfoldable pub fields : ℕ → ℕ → List Field
fields k p =
    cond (eqb k 1) (rect ∷ radius ∷ colour ∷ paint ∷ gradient p)
    (cond (eqb k 2) (rect ∷ radius ∷ stroke_width ∷ colour ∷ [])
    (cond (eqb k 3) (rect ∷ radius ∷ blur ∷ colour ∷ [])
    (cond (eqb k 4) (rect ∷ radius ∷ blur ∷ colour ∷ saturation ∷ brightness ∷ bezel ∷ spec ∷ table ∷ [])
    (cond (eqb k 5) (source ∷ x ∷ y ∷ radius ∷ alpha ∷ dim ∷ [])
    (cond (eqb k 6) (source ∷ rect ∷ radius ∷ float_alpha ∷ [])
    (cond (eqb k 7) (source ∷ rect ∷ target ∷ time ∷ float_alpha ∷ [])
    (cond (eqb k 8) (x ∷ y ∷ width ∷ height ∷ border ∷ tag ∷ []) [])))))))

-- the flag bits of the kinds 0 to 8: a shadow's bit 0, a frame's bits 0 and 1
abbrev pub flag_table : List ℕ
flag_table = 0 ∷ 0 ∷ 0 ∷ 1 ∷ 0 ∷ 0 ∷ 0 ∷ 0 ∷ 3 ∷ []

unfoldable pub flag_bits : ℕ → ℕ
flag_bits k = get_or flag_table k 0

-- byte o is one of a field of the list
unfoldable pub among : List Field → ℕ → Bool
among [] o = false
among (f ∷ fs) o = leb (span f).0 o && ltb o ((span f).0 + (span f).1) || among fs o

-- byte o is used: every kind has kind, flags, priority and clip
unfoldable pub used : ℕ → ℕ → ℕ → Bool
used k p o = among (kind ∷ flags ∷ priority ∷ clip ∷ fields k p) o

-- each unused byte before the check is zero
unfoldable pub unused_zero : ℕ → ℕ → List ℕ → Bool
unused_zero k p b = every (at check) (λ o. used k p o || eqb (byte b o) 0)

-- the kind k is known, and a fill's paint p and a frame's tag t
unfoldable pub known : ℕ → ℕ → ℕ → Bool
known k p t = leb 1 k && leb k 8 && (not (eqb k 1) || ltb p 4) && (not (eqb k 8) || ltb t 7)

-- no bit of the flags f is set but those of kind k
unfoldable pub flags_in : ℕ → ℕ → Bool
flags_in k f = eqb (bit_and f (flag_bits k)) f

-- cause 5 does not arise
unfoldable pub well_formed : List ℕ → Bool
well_formed b =
    let k = Fields.kind b in
    let p = Fields.paint b in
    known k p (Fields.tag b) && (flags_in k (Fields.flags b) && unused_zero k p b)
