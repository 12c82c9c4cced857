-- Laws of the plans: the dates as the code tests them, what a plan says of the fields, and that its records are the writer's output.
use Rattle.std.specs.Prelude.{Some, None, Option, Result, Ok, Err}
use Prim.Native.Nat.{ℕ, ◌+◌, ◌-◌, ◌≤◌}
use mathlib.Core.Path.{◌≡◌, ◌∙◌, refl, sym, ap}
use mathlib.Core.Bool.{Bool, true, false, cond, ◌&&◌, ◌||◌, and_assoc, and-true, false≢true}
use mathlib.Core.List.{List, []}
use native.Mathlib.Omega.{arith}
use lib.Dec.{leb, eqb}
use lib.ListN.{length}
use borrow.Author.Tests.{leb-true, eqb-true}
use Rattle.rules.specs.Digits.{digits, all_at_most}
use Rattle.rules.specs.Calendar.{month_at, first_slot, exists, whole_minute, month_count}
use Rattle.rules.specs.Plant.{plant_id}
use Rattle.rules.specs.Name.{format_of}
use Rattle.rules.specs.Body.{schedule, encode_body, highest_rate}
use Rattle.rules.specs.File.{month_begins, update_dates}
use Rattle.rules.specs.Writer.{Fields, refuse, fitting, month_records, field_records, update_record, flag_fits, digits_fit, months_fit, write_as, write_body}
use Rattle.rules.specs.Table.{need}
use Rattle.rules.specs.declared.Cause.{Cause}
use Rattle.rules.specs.declared.Format.{Format}
use Rattle.rules.specs.declared.Format.TheVariants.{F201, F202, F203, F301}
use Rattle.laws.proofs.Tests.{both}
use Rattle.digits.proofs.Parts.{digits-length}
use Rattle.calendar.specs.Moments.{month_begun}
use Rattle.calendar.proofs.Begins.{begun-facts, begun-none}
use Rattle.calendar.proofs.Laws.{first-slot-monotone}
use Rattle.layout.specs.Dates.{update_holds}
use Rattle.plan.specs.Fields.{fields_of}
use Rattle.plan.specs.Plan.{months_plan, update_dated, update_plan, plan_as, plan_of, output_of}
use Rattle.plan.specs.Given.{UpdateGiven, MonthsGiven}
use Rattle.plan.specs.declared.Plan.{Plan}
use Rattle.plan.specs.declared.Plan.TheVariants.{Months, Update}

-- ---- a 201's or 202's dates

module _ (k : ℕ) (ident start rates : List ℕ) where
  -- the fields that its dates look at
  abbrev date_fields : Fields
  date_fields = fields_of 0 [] ident start [] rates 0

  -- whether m is followed by k months, and has as many rates as their slots
  abbrev length_fits : ℕ → Bool
  length_fits m = leb (m + k) month_count && eqb (length rates) (first_slot (m + k) - first_slot m)

  months-fit : months_fit k date_fields ≡ ((exists (whole_minute start) && month_begins start) && length_fits (month_at start))
  unfolding months_fit
  months-fit =
      let m = month_at start in
      and_assoc (exists (whole_minute start) && month_begins start) (leb (m + k) month_count) (eqb (length rates) (first_slot (m + k) - first_slot m))

-- the same, as the code tests them: by the month that the start begins
pub unbegun_fits : (k : ℕ) (ident start rates : List ℕ) → digits 12 start ≡ true → None ≡ month_begun start
    → months_fit k (fields_of 0 [] ident start [] rates 0) ≡ false
unbegun_fits k ident start rates d e =
    let unbegun : (exists (whole_minute start) && month_begins start) ≡ false = rw d at (begun-none start e) in
    months-fit k ident start rates ∙ rw unbegun refl

pub begun_fits : (k : ℕ) (ident start rates : List ℕ) (m : ℕ) → Some m ≡ month_begun start
    → months_fit k (fields_of 0 [] ident start [] rates 0) ≡ (leb (m + k) month_count && eqb (length rates) (first_slot (m + k) - first_slot m))
begun_fits k ident start rates m b =
    let f = begun-facts start m b in
    months-fit k ident start rates ∙ rw (f.there, f.first, ← f.month) refl

pub begun_month : (start : List ℕ) (m : ℕ) → Some m ≡ month_begun start → month_at start ≡ m
begun_month start m b = sym (begun-facts start m b).month

pub slots_rise : (m k : ℕ) → first_slot m ≤ first_slot (m + k)
slots_rise m k = first-slot-monotone m (m + k) (omega arith)

pub ruleset dates = (unbegun_fits, begun_fits, begun_month, slots_rise)

-- ---- a 203's form and dates

-- the dates, as the code tests them
pub dated_as : (start next : List ℕ) (n : ℕ) → digits 14 next ≡ true → update_dated start next n ≡ update_holds start n next
unfolding update_holds
dated_as start next n e = rw e refl

-- the form that its fields have
abbrev form_fits : List ℕ → List ℕ → List ℕ → List ℕ → Bool
form_fits ident start next rates = digits 10 ident && digits 12 start && (digits 14 next && leb (length rates) 336)

-- ---- what a plan says of the fields

-- whether a plan has records
abbrev kept : Result Plan Cause → Bool
kept (Ok p) = true
kept (Err c) = false

-- such a plan passed each test
passed : (b : Bool) (c : Cause) (p q : Result Plan Cause) → kept q ≡ true → need b (Err c) p ≡ q → (b ≡ true) × (p ≡ q)
passed true c p q a e = (refl, e)
passed false c p q a e = absurd (false≢true (ap kept e ∙ a))

-- three tests one after the other
three-passed : (a b d : Bool) (c₁ c₂ c₃ : Cause) (p q : Result Plan Cause) → kept q ≡ true → need a (Err c₁) (need b (Err c₂) (need d (Err c₃) p)) ≡ q
    → (a ≡ true) × (b ≡ true) × (p ≡ q)
three-passed a b d c₁ c₂ c₃ p q h e =
    let p₁ = passed a c₁ (need b (Err c₂) (need d (Err c₃) p)) q h e in
    let p₂ = passed b c₂ (need d (Err c₃) p) q h p₁.1 in
    (p₁.0, p₂.0, (passed d c₃ p q h p₂.1).1)

months-passed : (k : ℕ) (ident start rates : List ℕ) (q : Result Plan Cause) → kept q ≡ true → months_plan k ident start rates ≡ q
    → ((digits 10 ident && digits 12 start) ≡ true)
    × (months_fit k (date_fields k ident start rates) ≡ true)
    × (Ok (Months (month_at start) (month_at start + k)) ≡ q)
unfolding months_plan
months-passed k ident start rates q h e =
    let m = month_at start in
    three-passed (digits 10 ident && digits 12 start) (months_fit k (date_fields k ident start rates)) (all_at_most highest_rate rates)
    Cause.Form Cause.Date Cause.Rate (Ok (Months m (m + k))) q h e

update-passed : (ident start next rates : List ℕ) (q : Result Plan Cause) → kept q ≡ true → update_plan ident start next rates ≡ q
    → (form_fits ident start next rates ≡ true) × (update_dated start next (length rates) ≡ true) × (Ok Update ≡ q)
unfolding update_plan
update-passed ident start next rates q h e =
    three-passed (form_fits ident start next rates) (update_dated start next (length rates)) (all_at_most highest_rate rates)
    Cause.Form Cause.Date Cause.Rate (Ok Update) q h e

plant-length : (id : List ℕ) → plant_id id ≡ true → length id ≡ 26
unfolding plant_id
plant-length id e = digits-length 26 id (both _ _ e).0

months-facts : (k : ℕ) (w : Fields) (first end : ℕ) → k ≤ 13 → length w.plant ≡ 26
    → months_plan k w.schedule w.start w.rates ≡ Ok (Months first end) → MonthsGiven w first end
months-facts k w first end few long e =
    let p = months-passed k w.schedule w.start w.rates (Ok (Months first end)) refl e in
    let m = month_at w.start in
    let begins = exists (whole_minute w.start) && month_begins w.start in
    let fit = (both begins (length_fits k w.schedule w.start w.rates m) (sym (months-fit k w.schedule w.start w.rates) ∙ p.1)).1 in
    let tests = both (leb (m + k) month_count) (eqb (length w.rates) (first_slot (m + k) - first_slot m)) fit in
    let last = leb-true (m + k) month_count tests.0 in
    let slots = eqb-true (length w.rates) (first_slot (m + k) - first_slot m) tests.1 in
    let rises = first-slot-monotone m (m + k) (omega arith) in
    let first-is : first ≡ m = cc p.2 in
    let end_is : end ≡ m + k = cc p.2 in
    record {
      schedule-long = digits-length 10 w.schedule (both (digits 10 w.schedule) (digits 12 w.start) p.0).0;
      plant-long = long;
      order = omega arith;
      last = omega arith;
      few = omega arith;
      full = rw (first-is, end_is) (omega arith);
    }

update-facts : (w : Fields) → w.flag ≤ 9 → length w.plant ≡ 26
    → update_plan w.schedule w.start w.next w.rates ≡ Ok Update → UpdateGiven w
update-facts w digit long e =
    let p = update-passed w.schedule w.start w.next w.rates (Ok Update) refl e in
    let form = both (digits 10 w.schedule && digits 12 w.start) (digits 14 w.next && leb (length w.rates) 336) p.0 in
    let ids = both (digits 10 w.schedule) (digits 12 w.start) form.0 in
    let after = both (digits 14 w.next) (leb (length w.rates) 336) form.1 in
    record {
      schedule-long = digits-length 10 w.schedule ids.0;
      plant-long = long;
      start-long = digits-length 12 w.start ids.1;
      next-long = digits-length 14 w.next after.0;
      few = leb-true (length w.rates) 336 after.1;
      digit = digit;
    }

-- the one kind of plan is not the other
months-no-update : (k : ℕ) (ident start rates : List ℕ) → months_plan k ident start rates ≡ Ok Update → ⊥
months-no-update k ident start rates e =
    let p = months-passed k ident start rates (Ok Update) refl e in
    let z : ◌≡◌ {A = ℕ} 0 1 = cc p.2 in
    omega arith

update-no-months : (ident start next rates : List ℕ) (first end : ℕ) → update_plan ident start next rates ≡ Ok (Months first end) → ⊥
update-no-months ident start next rates first end e =
    let p = update-passed ident start next rates (Ok (Months first end)) refl e in
    let z : ◌≡◌ {A = ℕ} 0 1 = cc p.2 in
    omega arith

module _ (w : Fields) where
  months-as : (o : Option Format) (first end : ℕ) → length w.plant ≡ 26 → plan_as w o ≡ Ok (Months first end)
      → MonthsGiven w first end
  months-as None first end long e = let z : ◌≡◌ {A = ℕ} 0 1 = cc in absurd (omega arith)
  months-as (Some F201) first end long e = months-facts 13 w first end (omega arith) long e
  months-as (Some F202) first end long e = months-facts 1 w first end (omega arith) long e
  months-as (Some F203) first end long e = absurd (update-no-months w.schedule w.start w.next w.rates first end e)
  months-as (Some F301) first end long e = let z : ◌≡◌ {A = ℕ} 0 1 = cc in absurd (omega arith)

  update-as : (o : Option Format) → w.flag ≤ 9 → length w.plant ≡ 26 → plan_as w o ≡ Ok Update → UpdateGiven w
  update-as None digit long e = let z : ◌≡◌ {A = ℕ} 0 1 = cc in absurd (omega arith)
  update-as (Some F201) digit long e = absurd (months-no-update 13 w.schedule w.start w.rates e)
  update-as (Some F202) digit long e = absurd (months-no-update 1 w.schedule w.start w.rates e)
  update-as (Some F203) digit long e = update-facts w digit long e
  update-as (Some F301) digit long e = let z : ◌≡◌ {A = ℕ} 0 1 = cc in absurd (omega arith)

  -- an update's flag was looked at
  flag-as : (yearly monthly : Bool) (o : Option Format) → (leb w.flag 9 || yearly || monthly) ≡ true
      → plan_as w (cond yearly (Some F201) (cond monthly (Some F202) o)) ≡ Ok Update → leb w.flag 9 ≡ true
  flag-as true monthly o t e = absurd (months-no-update 13 w.schedule w.start w.rates e)
  flag-as false true o t e = absurd (months-no-update 1 w.schedule w.start w.rates e)
  flag-as false false o t e = go (leb w.flag 9) t
    where
      go : (b : Bool) → (b || false || false) ≡ true → b ≡ true
      go true t = refl
      go false t = t

  plan-passed : (q : Result Plan Cause) → kept q ≡ true → plan_of w ≡ q
      → (plant_id w.plant ≡ true) × (flag_fits w ≡ true) × (plan_as w (format_of w.format) ≡ q)
  unfolding plan_of
  plan-passed q h e =
      let o = plan_as w (format_of w.format) in
      let p₁ = passed (plant_id w.plant) Cause.PlantId (need (flag_fits w) (Err Cause.Range) o) q h e in
      let p₂ = passed (flag_fits w) Cause.Range o q h p₁.1 in
      (p₁.0, p₂.0, p₂.1)

  pub months_given : (first end : ℕ) → plan_of w ≡ Ok (Months first end) → MonthsGiven w first end
  months_given first end e =
      let p = plan-passed (Ok (Months first end)) refl e in
      months-as (format_of w.format) first end (plant-length w.plant p.0) p.2

  plan-digit : plan_of w ≡ Ok Update → w.flag ≤ 9
  unfolding format_of
  plan-digit e =
      let p = plan-passed (Ok Update) refl e in
      let n = w.format in
      let others = cond (eqb n 203) (Some F203) (cond (eqb n 301) (Some F301) None) in
      leb-true w.flag 9 (flag-as (eqb n 201) (eqb n 202) others p.1 p.2)

  pub update_given : plan_of w ≡ Ok Update → UpdateGiven w
  update_given e =
      let p = plan-passed (Ok Update) refl e in
      update-as (format_of w.format) (plan-digit e) (plant-length w.plant p.0) p.2

  -- ---- the output

  module _ (room : ℕ) where
    one-need : (b : Bool) (c : Cause) (p : Result Plan Cause) → need b (refuse c) (output_of w room p) ≡ output_of w room (need b (Err c) p)
    one-need true c p = refl
    one-need false c p = refl

    three_needs : (a b d : Bool) (c₁ c₂ c₃ : Cause) (p : Result Plan Cause)
        → need a (refuse c₁) (need b (refuse c₂) (need d (refuse c₃) (output_of w room p)))
        ≡ output_of w room (need a (Err c₁) (need b (Err c₂) (need d (Err c₃) p)))
    three_needs a b d c₁ c₂ c₃ p = rw (one-need d c₃ p, one-need b c₂ (need d (Err c₃) p)) (one-need a c₁ (need b (Err c₂) (need d (Err c₃) p)))

    -- a 201 or 202
    months-output : (k : ℕ)
        → need (digits 10 w.schedule && digits 12 w.start && true) (refuse Cause.Form)
        (need (months_fit k w) (refuse Cause.Date)
        (need (all_at_most highest_rate w.rates) (refuse Cause.Rate)
        (fitting room (encode_body (schedule (month_records w k (month_at w.start) w.rates))))))
        ≡ output_of w room (months_plan k w.schedule w.start w.rates)
    unfolding months_plan months_fit
    months-output k =
        let m = month_at w.start in
        let form = digits 10 w.schedule && digits 12 w.start in
        let k-is : m + k - m ≡ k = omega arith in
        sym (sym (three_needs form (months_fit k w) (all_at_most highest_rate w.rates) Cause.Form Cause.Date Cause.Rate (Ok (Months m (m + k))))
        ∙ rw (k-is, and-true form) refl)

    output_as : (o : Option Format) → write_as room w o ≡ output_of w room (plan_as w o)
    unfolding update_plan digits_fit update_dates update_record field_records
    output_as None = refl
    output_as (Some F201) = months-output 13
    output_as (Some F202) = months-output 1
    output_as (Some F203) =
        let dates = update_dated w.start w.next (length w.rates) in
        three_needs (form_fits w.schedule w.start w.next w.rates) dates (all_at_most highest_rate w.rates) Cause.Form Cause.Date Cause.Rate (Ok Update)
    output_as (Some F301) = refl

    pub output_is : write_body w room ≡ output_of w room (plan_of w)
    unfolding write_body plan_of
    output_is =
        let o = format_of w.format in
        let p = plan_as w o in
        rw (output_as o, one-need (flag_fits w) Cause.Range p) (one-need (plant_id w.plant) Cause.PlantId (need (flag_fits w) (Err Cause.Range) p))
