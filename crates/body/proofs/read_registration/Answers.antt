-- `body::read_registration` meets its contract: form and plant are all that is judged.
use mathlib.Core.Path.{sym}
use native.Mathlib.Omega.{arith}
use Rattle.body.proofs.Outcomes.{no-registration, registered-length, no-registered-plant, registered-plant}
use Rattle.body.proofs.read_registration.Goals as goal

pub returns-then-not-registration_stands : goal.returns-then-not-registration_stands
returns-then-not-registration_stands c = no-registration _ _ _ (sym c.if-not-registration_stands.ensures)

pub slice_bounds-same-end : goal.slice_bounds-same-end
slice_bounds-same-end c = omega (arith, registered-length _ (sym c.if-not-registration_stands.ensures))

pub returns-then-not-same : goal.returns-then-not-same
returns-then-not-same c = no-registered-plant _ _ _ (sym c.if-not-registration_stands.ensures) c.if-not-same.ensures

pub bounds-s-26 : goal.bounds-s-26
bounds-s-26 c = omega (arith, registered-length _ (sym c.if-not-registration_stands.ensures))

pub returns : goal.returns
returns c = registered-plant _ _ _ (sym c.if-not-registration_stands.ensures) c.if-not-same.ensures
