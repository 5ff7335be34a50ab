-- `box_of`: by the kind.
use Prim.Native.Nat.{◌*◌}
use mathlib.Core.Path.{◌≡◌, refl, sym, ◌∙◌}
use mathlib.Core.Bool.{true}
use Rattle.canvas.specs.Canvas.{is_canvas}
use Rattle.shadow.specs.Shadow.{shadow_box}
use Rattle.std.specs.Prelude.{Some, None}
use Rattle.block.specs.declared.Kind.TheVariants.{Shadow, Glass, Straight, Genie, Frame}
use Rattle.block.specs.Fields as Fields
use Rattle.layer.specs.Layer.{box_by}
use Rattle.boxes.specs.Boxes.{box_area}
use Rattle.boxes.proofs.Parts.{no_area, of_kind, panel_box, whole_clip}
use native.Mathlib.Omega.{arith}
use Rattle.std.proofs.lemmas.Grind.{common_steps}
use Rattle.boxes.proofs.box_of.Goals as goal
use Rattle.boxes.proofs.box_of.Goals.{Else-not-is_size}

pub returns-then-not-is_size : goal.returns-then-not-is_size
unfolding box_area
returns-then-not-is_size c =
    no_area c.default.result c.default.ensures ∙ rw (sym c.is_size.ensures ∙ c.if-not-is_size.true) refl

-- w by h is a canvas's size
right : (c : Else-not-is_size) → let a = c.args in is_canvas a.size.w a.size.h (a.size.w * a.size.h) ≡ true
right c = sym c.is_size.ensures ∙ c.if-not-is_size.false

pub returns-in-Some-Fill : goal.returns-in-Some-Fill
unfolding box_by
returns-in-Some-Fill c =
    let a = c.args in
    let q = of_kind (Some c.in-Some-Fill.field-0) a.size.w a.size.h a.table.now a.b.now (right (goal.at.returns-in-Some-Fill c).Else-not-is_size) (sym c.kind_of.ensures ∙ c.in-Some-Fill.is) in
    grind (arith, common_steps)

pub returns-in-Some-Shadow : goal.returns-in-Some-Shadow
unfolding box_by shadow_box
returns-in-Some-Shadow c =
    let a = c.args in
    let q = of_kind (Some Shadow) a.size.w a.size.h a.table.now a.b.now (right (goal.at.returns-in-Some-Shadow c).Else-not-is_size) (cc) in
    cc

pub returns-in-Some-Glass : goal.returns-in-Some-Glass
unfolding box_by
returns-in-Some-Glass c =
    let a = c.args in
    let q = of_kind (Some Glass) a.size.w a.size.h a.table.now a.b.now (right (goal.at.returns-in-Some-Glass c).Else-not-is_size) (cc) in
    let r = panel_box a.size.w a.size.h a.b.now in
    cc

pub returns-in-Some-Straight : goal.returns-in-Some-Straight
unfolding box_by
returns-in-Some-Straight c =
    let a = c.args in
    let q = of_kind (Some Straight) a.size.w a.size.h a.table.now a.b.now (right (goal.at.returns-in-Some-Straight c).Else-not-is_size) (cc) in
    cc

pub returns-in-Some-Genie : goal.returns-in-Some-Genie
unfolding box_by
returns-in-Some-Genie c =
    let a = c.args in
    let q = of_kind (Some Genie) a.size.w a.size.h a.table.now a.b.now (right (goal.at.returns-in-Some-Genie c).Else-not-is_size) (cc) in
    let r = whole_clip a.size.w a.size.h (Fields.clip a.b.now) in
    cc

pub returns-in-Some-Frame : goal.returns-in-Some-Frame
unfolding box_by
returns-in-Some-Frame c =
    let a = c.args in
    let q = of_kind (Some Frame) a.size.w a.size.h a.table.now a.b.now (right (goal.at.returns-in-Some-Frame c).Else-not-is_size) (cc) in
    cc

pub returns-in-None : goal.returns-in-None
unfolding box_by
returns-in-None c =
    let a = c.args in
    no_area c.default-in-None.result c.default-in-None.ensures
    ∙ of_kind None a.size.w a.size.h a.table.now a.b.now (right (goal.at.returns-in-None c).Else-not-is_size) (cc)

pub clipped-requires : goal.clipped-requires
clipped-requires c = right (goal.at.clipped-requires c).Else-not-is_size

pub whole-requires : goal.whole-requires
whole-requires c = right (goal.at.whole-requires c).Else-not-is_size
