-- What the writer writes is a lawful file, reads back as that file, and has the fields that it was written from.
use Rattle.std.specs.Prelude.{Option, None, Some}
use Prim.Native.Nat.{ℕ, suc, ◌+◌, ◌-◌, ◌≤◌}
use mathlib.Core.Path.{◌≡◌, ◌∙◌, refl, sym, ap}
use mathlib.Core.Bool.{Bool, true, false, ◌&&◌, ◌||◌, false≢true, or-false}
use mathlib.Core.List.{List, [], ◌∷◌, append-nil}
use native.Mathlib.Omega.{arith}
use lib.Dec.{leb, eqb, lit≤}
use lib.ListN.{length}
use borrow.Author.Tests.{le-leb, leb-true, eq-eqb, eqb-true}
use Rattle.rules.specs.Digits.{all_at_most, digits, value, decimal, same_bytes}
use Rattle.rules.specs.Calendar.{exists, month_at, whole_minute, half_hour, start_slot, month_count, first_slot}
use Rattle.rules.specs.Plant.{plant_id}
use Rattle.rules.specs.Name.{Name, format_of, lawful_name, segment_fits, encode_name}
use Rattle.rules.specs.Body.{Record, schedule, count_of, most_rates, flag_digits, next_digits, form_of_record, every, is_schedule, form_of_body, encode_body, highest_rate}
use Rattle.rules.specs.File.{file, read_file, lawful, id_fits, month_begins, months_from, first_month, update_dates, in_time, record_dates, dates_hold, rates_hold, checksums_hold, plants_hold, checksum_of}
use Rattle.rules.specs.Writer.{Fields, Output, refuse, bytes, field_records, month_records, update_record, flag_fits, next_fits, digits_fit, months_fit, dates_fit, write_body}
use Rattle.rules.specs.Table.{need}
use Rattle.rules.specs.declared.Cause.{Cause}
use Rattle.rules.specs.declared.Format.{Format}
use Rattle.rules.specs.declared.Format.TheVariants.{F201, F202, F203, F301}
use Rattle.laws.proofs.Tests.{both, join}
use Rattle.laws.proofs.Bytes.{same_self, equal-same}
use Rattle.laws.proofs.Facts.{digits_of}
use Rattle.about_files.specs.Reading.{Rules}
use Rattle.about_files.specs.Writing.{NameFor, Carries, file_for, WrittenReads, first_start}
use Rattle.about_files.proofs.Numerals.{decimal-digits}
use Rattle.about_files.proofs.Record.{facts-form}
use Rattle.about_files.proofs.Name.{format-number}
use Rattle.about_files.proofs.Body.{facts-schedule}
use Rattle.about_files.proofs.Calendar.{slots_from, slots-between}
use Rattle.about_files.proofs.MonthStart.{start-month, start-day, start_is, at-start}
use Rattle.about_files.proofs.Months.{checksum-back, months-length, months-every, months-rates, months-joined, months-dates, months-form, months-checksums}
use Rattle.about_files.proofs.Reading.{read-exactly, facts-lawful}

-- ---- what the writer tests, fact by fact
pub record Fit (f : Format) (w : Fields) : Type 0 where
  pub plant : plant_id w.plant ≡ true
  pub flag : flag_fits w ≡ true
  pub scheduled : is_schedule f ≡ true
  pub digits : digits_fit f w ≡ true
  pub dates : dates_fit f w ≡ true
  pub rates : all_at_most highest_rate w.rates ≡ true

-- a refusal is no body
no_bytes : {X : Type 0} {c : Cause} {b : List ℕ} → refuse c ≡ bytes b → X
no_bytes e = let z : ◌≡◌ {A = ℕ} 0 1 = cc in absurd (omega arith)

passed : (t : Bool) (c : Cause) (o : Output) (b : List ℕ) → need t (refuse c) o ≡ bytes b → (t ≡ true) × (o ≡ bytes b)
passed true c o b e = (refl, e)
passed false c o b e = no_bytes e

module _ (w : Fields) (room : ℕ) (f : Format) (g : format_of w.format ≡ Some f) where
  abbrev body : List ℕ
  body = encode_body (schedule (field_records f w))

  pub written-facts : (b : List ℕ) → write_body w room ≡ bytes b → Fit f w × (b ≡ body)
  unfolding write_body
  written-facts b e =
      let s₁ = passed (plant_id w.plant) Cause.PlantId _ b e in
      let s₂ = passed (flag_fits w) Cause.Range _ b s₁.1 in
      let s₃ = passed (is_schedule f) Cause.Name _ b (rw g at s₂.1) in
      let s₄ = passed (digits_fit f w) Cause.Form _ b s₃.1 in
      let s₅ = passed (dates_fit f w) Cause.Date _ b s₄.1 in
      let s₆ = passed (all_at_most highest_rate w.rates) Cause.Rate _ b s₅.1 in
      let s₇ = passed (leb (length body) room) Cause.Buffer (bytes body) b s₆.1 in
      let made : bytes body ≡ bytes b = s₇.1 in
      (record { plant = s₁.0; flag = s₂.0; scheduled = s₃.0; digits = s₄.0; dates = s₅.0; rates = s₆.0 }, cc)

  pub facts-written : Fit f w → length body ≤ room → write_body w room ≡ bytes body
  unfolding write_body
  facts-written a h = rw (a.plant, a.flag, g) (rw (a.scheduled, a.digits, a.dates, a.rates, le-leb (length body) room h) refl)

-- ---- what the records must be for the file to be lawful, whatever its name
pub record Good (f : Format) (w : Fields) (rs : List Record) : Type 0 where
  pub count : length rs ≡ count_of f
  pub form : every (form_of_record f) rs ≡ true
  pub dates : (n : Name) → NameFor f w n → record_dates n f rs ≡ true
  pub rates : every (λ r. all_at_most highest_rate r.rates) rs ≡ true
  pub checksums : every (λ r. eqb (value r.checksum) (checksum_of r.start r.rates)) rs ≡ true
  pub carried : Carries f w rs

plant-digits : (id : List ℕ) → plant_id id ≡ true → digits 26 id ≡ true
unfolding plant_id
plant-digits id e = (both _ _ e).0

pub digits-parts : (f : Format) (w : Fields) → digits_fit f w ≡ true
    → (digits 10 w.schedule ≡ true) × (digits 12 w.start ≡ true) × (next_fits f w ≡ true)
unfolding digits_fit
digits-parts f w e =
    let p = both (digits 10 w.schedule && digits 12 w.start) (next_fits f w) e in
    let q = both (digits 10 w.schedule) (digits 12 w.start) p.0 in
    (q.0, q.1, p.1)

-- ---- 201 and 202: k + 1 months
module _ (f : Format) (w : Fields) (k : ℕ) (a : Fit f w) (months : months_fit (suc k) w ≡ true) where
  abbrev m : ℕ
  m = month_at w.start

  abbrev rs : List Record
  rs = month_records w (suc k) m w.rates

  record Months : Type 0 where
    date : exists (whole_minute w.start) ≡ true
    begins : month_begins w.start ≡ true
    inside : m + suc k ≤ month_count
    long : length w.rates ≡ slots_from (suc k) m

  months-facts : Months
  unfolding months_fit
  months-facts =
      let p = both _ _ months in
      let q = both _ _ p.0 in
      let r = both _ _ q.0 in
      record {
        date = r.0;
        begins = r.1;
        inside = leb-true (m + suc k) month_count q.1;
        long = eqb-true (length w.rates) (first_slot (m + suc k) - first_slot m) p.1 ∙ slots-between (suc k) m;
      }

  dated : months_from m rs ≡ true
  dated = months-dates w (suc k) m w.rates months-facts.inside months-facts.long

  first-is : first_month rs ≡ m
  unfolding month_records
  first-is = let h = months-facts.inside in at-start m (omega arith)

  start_back : first_start rs ≡ w.start
  unfolding month_records
  start_back = sym (start_is w.start (digits-parts f w a.digits).1 months-facts.date months-facts.begins)

  months-good : flag_digits f ≡ 0 → next_digits f ≡ 0 → 1536 ≤ most_rates f → suc k ≡ count_of f → (f ≡ F203 → ⊥)
      → ((n : Name) → NameFor f w n → record_dates n f rs ≡ true) → Good f w rs
  months-good fl nx most count other dates =
      let d = digits-parts f w a.digits in
      record {
        count = months-length w (suc k) m w.rates ∙ count;
        form = months-form w f fl nx most d.0 (plant-digits w.plant a.plant) (suc k) m w.rates;
        dates = dates;
        rates = months-rates w (suc k) m w.rates a.rates;
        checksums = months-checksums w (suc k) m w.rates;
        carried = record {
          schedules = months-every w (λ r. same_bytes r.schedule w.schedule) (λ i rates. same_self w.schedule) (suc k) m w.rates;
          plants = months-every w (λ r. same_bytes r.plant w.plant) (λ i rates. same_self w.plant) (suc k) m w.rates;
          start = start_back;
          rates = months-joined w (suc k) m w.rates months-facts.long;
          flag = λ e. absurd (other e);
          next = λ e. absurd (other e);
        };
      }

-- ---- 203
-- an update's start exists
pub update-start : (r : Record) → update_dates r ≡ true → exists (whole_minute r.start) ≡ true
unfolding update_dates start_slot
update-start r e = go (digits 12 r.start && exists (whole_minute r.start) && half_hour r.start) refl
  where
    go : (t : Bool) → (digits 12 r.start && exists (whole_minute r.start) && half_hour r.start) ≡ t → exists (whole_minute r.start) ≡ true
    go true p =
        let q = both (digits 12 r.start && exists (whole_minute r.start)) (half_hour r.start) p in
        (both (digits 12 r.start) (exists (whole_minute r.start)) q.0).1
    go false p = absurd (false≢true (rw p at (both (in_time (length r.rates) (start_slot r.start)) (exists r.next) e).0))

-- its checksum fits two digits
pub checksum-fits : (start rates : List ℕ) → digits 12 start ≡ true → exists (whole_minute start) ≡ true
    → value (decimal 2 (checksum_of start rates)) ≡ checksum_of start rates
checksum-fits start rates d e =
    let a = start-month start d e in
    let b = start-day start d e in
    let a₀ = a.0 in
    let a₁ = a.1 in
    checksum-back start rates (omega arith) (omega arith)

module _ (w : Fields) (n : format_of w.format ≡ Some F203) (a : Fit F203 w) where
  small-flag : w.flag ≤ 9
  small-flag =
      let h : w.format ≡ 203 = format-number w.format F203 n in
      let p : (leb w.flag 9 || false || false) ≡ true = rw h at a.flag in
      leb-true w.flag 9 (sym (or-false (leb w.flag 9)) ∙ sym (or-false (leb w.flag 9 || false)) ∙ p)

  update-good : Good F203 w (update_record w ∷ [])
  unfolding update_record every all_at_most
  update-good =
      let d = digits-parts F203 w a.digits in
      let x = both (digits 14 w.next) (leb (length w.rates) 336) d.2 in
      let form = facts-form F203 (update_record w)
      (record {
        schedule = digits_of 10 w.schedule d.0;
        plant = digits_of 26 w.plant (plant-digits w.plant a.plant);
        start = digits_of 12 w.start d.1;
        few = leb-true (length w.rates) 336 x.1;
        flag = record { long = refl; each = join (le-leb w.flag 9 small-flag) refl };
        checksum = digits_of 2 _ (decimal-digits 2 (checksum_of w.start w.rates));
        next = digits_of 14 w.next x.0;
      }) in
      record {
        count = refl;
        form = join form refl;
        dates = λ i h. join a.dates refl;
        rates = join a.rates refl;
        checksums = join (eq-eqb _ _ (checksum-fits w.start w.rates d.1 (update-start (update_record w) a.dates))) refl;
        carried = record {
          schedules = join (same_self w.schedule) refl;
          plants = join (same_self w.plant) refl;
          start = refl;
          rates = append-nil w.rates;
          flag = λ e. refl;
          next = λ e. refl;
        };
      }

-- ---- every format
pub fields-good : (f : Format) (w : Fields) → format_of w.format ≡ Some f → Fit f w → Good f w (field_records f w)
unfolding field_records
fields-good F201 w e a =
    months-good F201 w 12 a a.dates refl refl (lit≤ tt) refl (λ q. let z : ◌≡◌ {A = ℕ} 0 1 = cc in omega arith)
    (λ n h. ap (λ (i : ℕ). months_from i (rs F201 w 12 a a.dates)) (first-is F201 w 12 a a.dates) ∙ dated F201 w 12 a a.dates)
fields-good F202 w e a =
    months-good F202 w 0 a a.dates refl refl (lit≤ tt) refl (λ q. let z : ◌≡◌ {A = ℕ} 0 1 = cc in omega arith)
    (λ n h. ap (λ (i : ℕ). months_from i (rs F202 w 0 a a.dates)) (h.month refl) ∙ dated F202 w 0 a a.dates)
fields-good F203 w e a = update-good w e a
fields-good F301 w e a = absurd (false≢true a.scheduled)

-- ---- the file
module _ (f : Format) (w : Fields) (n : Name) (a : Fit f w) (g : Good f w (field_records f w)) (h : NameFor f w n) where
  abbrev made : List Record
  made = field_records f w

  name-lawful : lawful_name n ≡ true
  unfolding lawful_name
  name-lawful =
      let fits : segment_fits n.format n.segment ≡ true = ap (λ (x : Format). segment_fits x n.segment) h.format ∙ h.fits in
      let plant : digits 26 n.plant ≡ true = ap (digits 26) h.plant ∙ plant-digits w.plant a.plant in
      join (join (join (join h.segment fits) plant) h.created) h.date

  file-rules : Rules (file_for f w n)
  unfolding dates_hold rates_hold checksums_hold plants_hold
  file-rules = record {
    name = name-lawful;
    form = ap (λ (x : Format). form_of_body x (schedule made)) h.format ∙ facts-schedule f made a.scheduled g.count g.form;
    dates = ap (λ (x : Format). record_dates n x made) h.format ∙ g.dates n h;
    rates = g.rates;
    checksums = g.checksums;
    plants = ap (λ (x : List ℕ). every (λ r. same_bytes r.plant x) made) h.plant ∙ g.carried.plants;
  }

  file-lawful : (plant : Option (List ℕ)) → id_fits plant n.plant ≡ true → lawful plant (file_for f w n) ≡ true
  file-lawful plant i = facts-lawful plant (file_for f w n) file-rules i

  file-read : (plant : Option (List ℕ)) (b : List ℕ) → id_fits plant n.plant ≡ true → b ≡ encode_body (schedule made)
      → read_file plant (encode_name n) b ≡ file (file_for f w n)
  file-read plant b i e = (read-exactly plant (encode_name n) b (file_for f w n)).1 (record { name_bytes = refl; body_bytes = e; fields = file-lawful plant i })

pub written-reads : WrittenReads
written-reads w room b f n e q h =
    let p = written-facts w room f q b e in
    let a = p.0 in
    let g = fields-good f w q a in
    let id : plant_id n.plant ≡ true = ap plant_id h.plant ∙ a.plant in
    record {
      fields = file-lawful f w n a g h None id;
      body_bytes = p.1;
      read = file-read f w n a g h None b id p.1;
      read_with_plant = file-read f w n a g h (Some w.plant) b (equal-same h.plant) p.1;
      carried = g.carried;
    }
