-- What the private functions of `frame` keep from step to step. The contract of the painter says nothing of it.
use Rattle.std.specs.Prelude.{ℕ, ◌≡◌, ◌<◌, Bool, cond, Result, MatchResult}
use Rattle.frame.specs.declared.Look.{Look}
use Rattle.frame.specs.declared.SecurityTag.{SecurityTag}
use Rattle.frame.specs.declared.SecurityTag.TheVariants.{ObsidianAdmin, PurpleVault, MintPersonal, BlueWork, AmberUsb, RedUntrustedNet, MagentaDisposable}
use Rattle.frame.specs.declared.UnknownTag.{UnknownTag}
use Rattle.frame.specs.Frame.{alpha, tag_colors, bg_color, blend_pixel}

-- the number that stands for a domain
abbrev pub number : SecurityTag → ℕ
number ObsidianAdmin = 0
number PurpleVault = 1
number MintPersonal = 2
number BlueWork = 3
number AmberUsb = 4
number RedUntrustedNet = 5
number MagentaDisposable = 6

-- the domain of this number, or an error where the number is above the last domain's
abbrev pub Names : ℕ → Result SecurityTag UnknownTag → Type 0
Names tag r = MatchResult r (λ t. number t ≡ tag) (λ e. 6 < tag)

-- what a frame is painted with
unfoldable pub look_of : ℕ → Bool → Bool → Look
look_of tag tint xray =
    let c = tag_colors tag in
    let bg = bg_color c tint in
    record { edge = c.border; over = cond xray c.border bg; a = cond xray 96 (alpha bg) }

-- a pixel that is the border's or the window's
unfoldable pub framed : Look → Bool → ℕ → ℕ
framed k border p = cond border k.edge (blend_pixel p k.over k.a)
