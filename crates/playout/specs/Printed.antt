-- The program `playout`: the bytes that it prints for each input, in ASCII.
use Rattle.std.specs.Prelude.{ℕ, zero, suc, ◌+◌, ◌/◌, ◌%◌, cond, List, [], ◌∷◌, ◌++◌, eqb, leb, ltb, length, get_or, replicate, Ok, Err}
use Prim.Native.Char.{code}
use Prim.Native.String.{String, [] as none, ◌∷◌ as ◌before◌}
use Rattle.color.specs.Color.{red, green, blue}
use Rattle.answer.specs.Answer.{number, Answer}
use Rattle.accept.specs.Tests.{answer}
use Rattle.play.specs.Play.{final}

-- ---- text

-- the bytes of a text
abbrev pub ascii : String → List ℕ
ascii none = []
ascii (c before s) = code c ∷ ascii s

-- 0 to 9, then A to F
unfoldable pub digit : ℕ → ℕ
digit d = cond (ltb d 10) (48 + d) (55 + d)

-- a number in decimal; none that is printed has more than three digits (proofs/Small.antt)
unfoldable pub decimal : ℕ → List ℕ
decimal n =
    cond (ltb n 10) (digit n ∷ [])
    (cond (ltb n 100) (digit (n / 10) ∷ digit (n % 10) ∷ []) (digit (n / 100 % 10) ∷ digit (n / 10 % 10) ∷ digit (n % 10) ∷ []))

-- a byte as two hexadecimal digits
unfoldable pub byte : ℕ → List ℕ
byte v = digit (v / 16) ∷ digit (v % 16) ∷ []

-- a pixel's low 24 bits
unfoldable pub pixel : ℕ → List ℕ
pixel p = byte (red p) ++ byte (green p) ++ byte (blue p)

-- what follows pixel i of rows of four: a line end after the last of a row, otherwise a space
unfoldable pub follow : ℕ → List ℕ
follow i = cond (eqb (i % 4) 3) (ascii "\n") (ascii " ")

-- the first n pixels of a canvas four wide
unfoldable pub pixels : List ℕ → ℕ → List ℕ
pixels cv zero = []
pixels cv (suc n) = pixels cv n ++ (pixel (get_or cv n 0) ++ follow n)

-- ---- the program

-- source 0 is 2 by 1, source 1 is 1 by 1
abbrev pub table : List ℕ
table = 2 ∷ 1 ∷ 1 ∷ 1 ∷ []

abbrev pub pool : List ℕ
pool = 0x112233 ∷ 0x445566 ∷ 0xFFFFFF ∷ []

-- 4 by 2
abbrev pub black : List ℕ
black = replicate 8 0

unfoldable pub refused : ℕ → ℕ → List ℕ
refused cause block = ascii "refused " ++ decimal cause ++ ascii " block " ++ decimal block ++ ascii "\n"

unfoldable pub layers : ℕ → List ℕ → List ℕ
layers n cv = ascii "layers " ++ decimal n ++ ascii "\n" ++ pixels cv 8

-- play's answer, with the canvas that it leaves
unfoldable pub told : Answer → List ℕ → List ℕ
told (Ok n) cv = layers n cv
told (Err r) cv = refused (number r.cause) r.beside

-- a rundown, played on 8 pixels from a pool of 3, with 24 bytes of scratch each
unfoldable pub played : List ℕ → List ℕ
played input = told (answer 4 2 8 table 3 input 24 24) (final 4 2 table pool input 24 24 black)

-- an input of more than 128 blocks of 512 bytes is cause 3
unfoldable pub printed : List ℕ → List ℕ
printed input = cond (leb (length input) 65536) (played input) (refused 3 0)
