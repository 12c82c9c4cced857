-- `body::read_schedule` meets its contract: each return has a law on the tests that led there.
use mathlib.Core.Path.{◌≡◌, ◌∙◌, refl, sym}
use mathlib.Core.List.{[]}
use borrow.Author.Rules.{rules}
use borrow.Author.Tests.{tests}
use Rattle.std.proofs.lemmas.Iterator.Search.{all_from_yields_List}
use Rattle.rules.specs.Body.{count_of, every}
use Rattle.rules.specs.File.{record_dates}
use Rattle.form.specs.Walk.{records_from}
use Rattle.form.proofs.Turns.{yields}
use Rattle.body.specs.Reading.{name_of}
use Rattle.body.specs.Records.{rates_fit, checksum_holds, checksum_fits, plant_fits}
use Rattle.body.proofs.Fields.{formed, stage, dates-are, checksum-same}
use Rattle.body.proofs.Outcomes.{no-form, no-dates, no-rates, no-checksum, no-plant, accepted}
use Rattle.body.proofs.read_schedule.Goals as goal
use Rattle.body.proofs.read_schedule.Goals.{After-dates_hold, After-all, After-all-2, After-all-3}

-- what each stage answers
dated : (c : After-dates_hold) → let a = c.args in
    c.dates_hold.result ≡ record_dates (name_of a.format a.segment []) a.format (records_from a.format (count_of a.format) a.s.now)
dated c =
    let w = c.new-records.ensures in
    c.dates_hold.ensures ∙ dates-are c.args.format c.args.s.now (sym c.if-not-records_stand.ensures) c.new-records.result w.format
    (w.left ∙ c.record_count.ensures) w.rest c.args.segment

rated : (c : After-all) → let a = c.args in c.all.result ≡ every rates_fit (records_from a.format (count_of a.format) a.s.now)
rated c =
    let w = c.new-records.ensures in
    all_from_yields_List rates_fit c.all.new.self _ _ c.all.ensures.ran (yields c.new-records.result) (λ x b q h. search (rules, tests))
    ∙ stage c.args.format c.args.s.now (sym c.if-not-records_stand.ensures) c.new-records.result w.format
    (w.left ∙ c.record_count.ensures) w.rest rates_fit rates_fit (λ t h. refl)

summed : (c : After-all-2) → let a = c.args in c.all-2.result ≡ every checksum_fits (records_from a.format (count_of a.format) a.s.now)
summed c =
    let w = c.new-records.ensures in
    all_from_yields_List checksum_holds c.all-2.new.self _ _ c.all-2.ensures.ran (yields c.new-records.result) (λ x b q h. search (rules, tests))
    ∙ stage c.args.format c.args.s.now (sym c.if-not-records_stand.ensures) c.new-records.result w.format
    (w.left ∙ c.record_count.ensures) w.rest checksum_holds checksum_fits (checksum-same c.args.format)

named : (c : After-all-3) → let a = c.args in c.all-3.result ≡ every (plant_fits a.plant.now) (records_from a.format (count_of a.format) a.s.now)
named c =
    let w = c.new-records.ensures in
    let fits = plant_fits c.args.plant.now in
    all_from_yields_List fits c.all-3.new.self _ _ c.all-3.ensures.ran (yields c.new-records.result) (λ x b q h. search (rules, tests))
    ∙ stage c.args.format c.args.s.now (sym c.if-not-records_stand.ensures) c.new-records.result w.format
    (w.left ∙ c.record_count.ensures) w.rest fits fits (λ t h. refl)

pub returns-then-not-records_stand : goal.returns-then-not-records_stand
returns-then-not-records_stand c = no-form _ _ _ _ c.requires (sym c.if-not-records_stand.ensures)

pub dates_hold-requires : goal.dates_hold-requires
dates_hold-requires c =
    let w = c.new-records.ensures in
    formed c.args.format c.args.s.now (sym c.if-not-records_stand.ensures) c.new-records.result w.format (w.left ∙ c.record_count.ensures) w.rest

pub returns-then-not-dates_hold : goal.returns-then-not-dates_hold
returns-then-not-dates_hold c =
    let at = goal.at.returns-then-not-dates_hold c in
    no-dates _ _ _ _ c.requires (sym c.if-not-records_stand.ensures) (sym c.if-not-dates_hold.true ∙ dated at.After-dates_hold)

pub returns-then-not-all : goal.returns-then-not-all
returns-then-not-all c =
    let at = goal.at.returns-then-not-all c in
    no-rates _ _ _ _ c.requires (sym c.if-not-records_stand.ensures) (sym c.if-not-dates_hold.false ∙ dated at.After-dates_hold)
    (sym c.if-not-all.true ∙ rated at.After-all)

pub returns-then-not-all-2 : goal.returns-then-not-all-2
returns-then-not-all-2 c =
    let at = goal.at.returns-then-not-all-2 c in
    no-checksum _ _ _ _ c.requires (sym c.if-not-records_stand.ensures) (sym c.if-not-dates_hold.false ∙ dated at.After-dates_hold)
    (sym c.if-not-all.false ∙ rated at.After-all) (sym c.if-not-all-2.true ∙ summed at.After-all-2)

pub returns-then-not-all-3 : goal.returns-then-not-all-3
returns-then-not-all-3 c =
    let at = goal.at.returns-then-not-all-3 c in
    no-plant _ _ _ _ c.requires (sym c.if-not-records_stand.ensures) (sym c.if-not-dates_hold.false ∙ dated at.After-dates_hold)
    (sym c.if-not-all.false ∙ rated at.After-all) (sym c.if-not-all-2.false ∙ summed at.After-all-2) (sym c.if-not-all-3.true ∙ named at.After-all-3)

pub schedule_summary-requires-clause-dated : goal.schedule_summary-requires-clause-dated
schedule_summary-requires-clause-dated c =
    sym (dated (goal.at.schedule_summary-requires-clause-dated c).After-dates_hold) ∙ c.if-not-dates_hold.false

pub returns : goal.returns
returns c =
    let at = goal.at.returns c in
    accepted _ _ _ _ c.requires (sym c.if-not-records_stand.ensures) (sym c.if-not-dates_hold.false ∙ dated at.After-dates_hold)
    (sym c.if-not-all.false ∙ rated at.After-all) (sym c.if-not-all-2.false ∙ summed at.After-all-2) (sym c.if-not-all-3.false ∙ named at.After-all-3)
    c.schedule_summary.ensures
