-- `field_part` meets its contract.
use Rattle.std.specs.Prelude.{Ok}
use mathlib.Core.Path.{◌≡◌, ◌∙◌, sym}
use native.Mathlib.Omega.{arith}
use Rattle.records.specs.Locating.{locate}
use Rattle.records.proofs.Finding.{field-missing, piece_inside, piece_is}
use Rattle.records.proofs.field_part.Goals as goal
use Rattle.records.proofs.field_part.Goals.{After-part_of-part}

located : (c : After-part_of-part) → let a = c.args in Ok c.in-Ok.places ≡ locate a.format a.body.now a.index
located c = sym c.in-Ok.is ∙ c.locate.ensures

pub returns-in_default : goal.returns-in_default
returns-in_default c = field-missing _ _ _ _ (sym c.in_default.is ∙ c.locate.ensures)

pub overflow_add-end : goal.overflow_add-end
overflow_add-end c =
    let at = (goal.at.overflow_add-end c).After-part_of-part in
    omega (arith, c.well_formed, piece_inside _ _ _ _ (located at) _ _ c.part_of-part.ensures)

pub slice_bounds-result-end-2 : goal.slice_bounds-result-end-2
slice_bounds-result-end-2 c = piece_inside _ _ _ _ (located (goal.at.slice_bounds-result-end-2 c).After-part_of-part) _ _ c.part_of-part.ensures

pub returns : goal.returns
returns c = piece_is _ _ _ _ (located (goal.at.returns c).After-part_of-part) _ _ c.part_of-part.ensures
