-- `date_stage::rising_months_hold` meets its contract, by the calendar's answer for the first start.
use Prim.Native.Nat.{ℕ}
use mathlib.Core.Path.{◌∙◌, refl, sym, ap}
use native.Mathlib.Omega.{arith}
use Rattle.rules.specs.Calendar.{month_at}
use Rattle.rules.specs.File.{months_from}
use Rattle.calendar.specs.Moments.{month_begun}
use Rattle.calendar.proofs.Begins.{Begins, begun-facts}
use Rattle.form.specs.Walk.{records_left}
use Rattle.form.proofs.Turns.{records-over}
use Rattle.body.proofs.Starts.{first-is, months-none}
use Rattle.body.proofs.date_stage.rising_months_hold.Goals as goal
use Rattle.body.proofs.date_stage.rising_months_hold.Goals.{In-Some-month_begun}

begun : (c : In-Some-month_begun) → Begins c.start.result.now c.in-Some-month_begun.first
begun c = begun-facts _ _ (sym c.in-Some-month_begun.is ∙ c.month_begun.ensures)

pub returns-in_default : goal.returns-in_default
unfolding months_from
returns-in_default c = rw (records-over c.args.records c.next.new.self c.in_default.ensures.steps) refl

pub returns-in_default-month_begun : goal.returns-in_default-month_begun
returns-in_default-month_begun c =
    let none = sym c.in_default-month_begun.is ∙ c.month_begun.ensures ∙ ap month_begun c.start.ensures in
    months-none c.args.records c.next.new.self c.in-Some.parts c.in-Some.ensures.steps c.requires.stand none _

pub months_hold-requires : goal.months_hold-requires
months_hold-requires c =
    let b = begun (goal.at.months_hold-requires c).In-Some-month_begun in
    (c.requires, omega (arith, b.few))

pub returns : goal.returns
returns c =
    let b = begun (goal.at.returns c).In-Some-month_begun in
    let first = first-is c.args.records c.next.new.self c.in-Some.parts c.in-Some.ensures.steps in
    let month = b.month ∙ ap month_at c.start.ensures ∙ sym first in
    c.months_hold.ensures ∙ ap (λ (m : ℕ). months_from m (records_left c.args.records)) month
