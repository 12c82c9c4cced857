-- `locate` meets its contract: each return has a law on the tests that led there.
use mathlib.Core.Path.{sym}
use native.Mathlib.Omega.{arith}
use Rattle.records.proofs.Bodies.{stands_facts}
use Rattle.records.proofs.Finding.{past-count, no-rates, no-form, found}
use Rattle.records.proofs.locate.Goals as goal

pub returns-then-record_count-index : goal.returns-then-record_count-index
returns-then-record_count-index c = let k = c.record_count.ensures in past-count _ _ _ (omega (arith, c.if-record_count-index.true))

pub returns-then-not-is_schedule : goal.returns-then-not-is_schedule
returns-then-not-is_schedule c =
    let k = c.record_count.ensures in
    no-rates _ _ _ (omega (arith, c.if-record_count-index.false)) (sym c.if-not-is_schedule.ensures)

pub returns-then-not-stands : goal.returns-then-not-stands
returns-then-not-stands c =
    let k = c.record_count.ensures in
    no-form _ _ _ (omega (arith, c.if-record_count-index.false)) (sym c.if-not-is_schedule.ensures) (sym c.if-not-stands.ensures)

pub places_in-requires : goal.places_in-requires
places_in-requires c =
    let k = c.record_count.ensures in
    (stands_facts _ _ (sym c.if-not-stands.ensures), omega (arith, c.if-record_count-index.false))

pub returns : goal.returns
returns c =
    let k = c.record_count.ensures in
    found _ _ _ (omega (arith, c.if-record_count-index.false)) (sym c.if-not-is_schedule.ensures) (sym c.if-not-stands.ensures) c.places_in.ensures
