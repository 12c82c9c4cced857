-- A body whose records share a schedule ID, read and written, is itself.
use Rattle.std.specs.Prelude.{Some}
use Prim.Native.Nat.{ℕ, suc, ◌+◌, ◌-◌, ◌≤◌}
use mathlib.Core.Path.{◌≡◌, ◌∙◌, refl, sym, ap, ap₂}
use mathlib.Core.Bool.{Bool, true, false, ◌&&◌, ◌||◌, false≢true, or-true}
use mathlib.Core.List.{List, [], ◌∷◌, ◌++◌, append-nil}
use native.Mathlib.Omega.{arith}
use lib.Dec.{leb, eqb}
use lib.ListN.{length, get_or, length-append}
use lib.Seq.{take_at, drop_at}
use borrow.Author.Tests.{le-leb, eq-eqb, eqb-true}
use Rattle.rules.specs.Digits.{all_at_most, digits, value, decimal, same_bytes}
use Rattle.rules.specs.Calendar.{month_at, slots_of_month, first_slot, month_count}
use Rattle.rules.specs.Plant.{plant_id}
use Rattle.rules.specs.Name.{Name, format_of, segment_month}
use Rattle.rules.specs.Body.{Record, schedule, count_of, flag_digits, next_digits, form_of_record, every, is_schedule, encode_body, highest_rate}
use Rattle.rules.specs.File.{File, months_from, update_dates, record_dates, checksum_of, whole_month}
use Rattle.rules.specs.Writer.{Fields, bytes, field_records, month_start, month_record, month_records, update_record, digits_fit, months_fit, write_body}
use Rattle.rules.specs.declared.Format.{Format}
use Rattle.rules.specs.declared.Format.TheVariants.{F201, F202, F203, F301}
use Rattle.laws.proofs.Tests.{both, join}
use Rattle.laws.proofs.Bytes.{same-equal, same_self, at-most-at}
use Rattle.laws.proofs.Facts.{of-digits, Digits, month-facts, WholeMonth}
use Rattle.about_files.proofs.Accepted.{scheduled}
use Rattle.about_files.specs.Reading.{FileBytes}
use Rattle.about_files.specs.Writing.{end_to_end, shared_schedule, fields_of, ReadWritten, ReadWrittenWithPlant}
use Rattle.about_files.proofs.Numerals.{all_append, decimal-value}
use Rattle.about_files.proofs.Record.{Form, form-facts}
use Rattle.about_files.proofs.Name.{format_back}
use Rattle.about_files.proofs.Calendar.{slots_from, slots-between}
use Rattle.about_files.proofs.MonthStart.{at_small, start_is}
use Rattle.about_files.proofs.Reading.{read-without-plant, read-with-plant}
use Rattle.about_files.proofs.Written.{Fit, facts-written}

-- ---- records, field by field
same-record : (r q : Record) → r.schedule ≡ q.schedule → r.plant ≡ q.plant → r.start ≡ q.start → r.rates ≡ q.rates → r.flag ≡ q.flag
    → r.checksum ≡ q.checksum → r.next ≡ q.next → r ≡ q
same-record r q a b c d e f g =
    λ i. record { schedule = a i; plant = b i; start = c i; rates = d i; flag = e i; checksum = f i; next = g i }

-- no bytes at all
pub none_left : (s : List ℕ) → length s ≡ 0 → [] ≡ s
none_left [] l = refl
none_left (x ∷ s) l = absurd (omega arith)

-- one byte
one_left : (s : List ℕ) → length s ≡ 1 → get_or s 0 0 ∷ [] ≡ s
one_left [] l = absurd (omega arith)
one_left (x ∷ []) l = refl
one_left (x ∷ y ∷ s) l = absurd (omega arith)

-- a checksum that holds is what the writer makes of start and rates
sum_back : (r : Record) → Digits 2 r.checksum → eqb (value r.checksum) (checksum_of r.start r.rates) ≡ true
    → decimal 2 (checksum_of r.start r.rates) ≡ r.checksum
sum_back r d e = ap (decimal 2) (sym (eqb-true _ _ e)) ∙ decimal-value r.checksum 2 d.long d.each

pub rates-joined : (rs : List Record) → every (λ r. all_at_most highest_rate r.rates) rs ≡ true → all_at_most highest_rate (end_to_end rs) ≡ true
unfolding every all_at_most
rates-joined [] e = refl
rates-joined (r ∷ rs) e =
    let p = both (all_at_most highest_rate r.rates) (every (λ q. all_at_most highest_rate q.rates) rs) e in
    all_append highest_rate r.rates (end_to_end rs) ∙ join p.0 (rates-joined rs p.1)

-- ---- a month's record

-- what is needed of each record, beside its month
abbrev fine : Format → Fields → Record → Bool
fine f w r =
    form_of_record f r
    && eqb (value r.checksum) (checksum_of r.start r.rates)
    && same_bytes r.plant w.plant
    && same_bytes r.schedule w.schedule

module _ (f : Format) (fl : flag_digits f ≡ 0) (nx : next_digits f ≡ 0) (w : Fields) where
  record-back : (m : ℕ) (r : Record) → whole_month m r ≡ true → fine f w r ≡ true → month_record w m r.rates ≡ r
  record-back m r e h =
      let p = both _ _ h in
      let q = both _ _ p.0 in
      let s = both _ _ q.0 in
      let g = form-facts f r s.0 in
      let d = month-facts m r e in
      let st : month_start m ≡ r.start =
      sym (start_is r.start (of-digits 12 r.start g.start) d.date d.begins ∙ ap month_start d.month) in
      same-record (month_record w m r.rates) r (sym (same-equal _ _ p.1)) (sym (same-equal _ _ q.1)) st refl
      (none_left r.flag (g.flag.long ∙ fl))
      (ap (λ (x : List ℕ). decimal 2 (checksum_of x r.rates)) st ∙ sum_back r g.checksum s.1)
      (none_left r.next (g.next.long ∙ nx))

  months-back : (rs : List Record) (m : ℕ) → months_from m rs ≡ true → every (fine f w) rs ≡ true → month_records w (length rs) m (end_to_end rs) ≡ rs
  unfolding month_records months_from every
  months-back [] m e h = refl
  months-back (r ∷ rs) m e h =
      let p = both (whole_month m r) (months_from (suc m) rs) e in
      let q = both (fine f w r) (every (fine f w) rs) h in
      let l = (month-facts m r p.0).full in
      rw (take_at r.rates (end_to_end rs) (slots_of_month m) l, drop_at r.rates (end_to_end rs) (slots_of_month m) l)
      (ap₂ (λ (x : Record) (xs : List Record). x ∷ xs) (record-back m r p.0 q.0) (months-back rs (suc m) p.1 q.1))

months-long : (rs : List Record) (m : ℕ) → months_from m rs ≡ true → length (end_to_end rs) ≡ slots_from (length rs) m
unfolding months_from slots_from
months-long [] m e = refl
months-long (r ∷ rs) m e =
    let p = both (whole_month m r) (months_from (suc m) rs) e in
    length-append r.rates (end_to_end rs) ∙ ap₂ ◌+◌ (month-facts m r p.0).full (months-long rs (suc m) p.1)

-- the last month ends by the end of 2099
months-inside : (f : Format) (rs : List Record) (m : ℕ) → every (form_of_record f) rs ≡ true → months_from m rs ≡ true
    → m ≤ month_count → m + length rs ≤ month_count
unfolding months_from every
months-inside f [] m g e h = omega arith
months-inside f (r ∷ rs) m g e h =
    let p = both (whole_month m r) (months_from (suc m) rs) e in
    let q = both (form_of_record f r) (every (form_of_record f) rs) g in
    let d = month-facts m r p.0 in
    let x = at_small r.start (of-digits 12 r.start (form-facts f r q.0).start) d.date in
    let a = d.month in
    let i = months-inside f rs (suc m) q.1 p.1 (omega arith) in
    omega arith

-- ---- what passes two tests passes both
every-both : (p q : Record → Bool) (rs : List Record) → every p rs ≡ true → every q rs ≡ true → every (λ r. p r && q r) rs ≡ true
unfolding every
every-both p q [] a b = refl
every-both p q (r ∷ rs) a b =
    let x = both (p r) (every p rs) a in
    let y = both (q r) (every q rs) b in
    join (join x.0 y.0) (every-both p q rs x.1 y.1)

-- ---- what is known of the records of a lawful file, for the plant with that ID
record Known (f : Format) (id : List ℕ) (rs : List Record) : Type 0 where
  plant : plant_id id ≡ true
  scheduled : is_schedule f ≡ true
  count : length rs ≡ count_of f
  form : every (form_of_record f) rs ≡ true
  rates : every (λ r. all_at_most highest_rate r.rates) rs ≡ true
  checksums : every (λ r. eqb (value r.checksum) (checksum_of r.start r.rates)) rs ≡ true
  plants : every (λ r. same_bytes r.plant id) rs ≡ true
  shared : shared_schedule rs ≡ true

-- the writer takes the fields of such records, and makes these records of them
abbrev Back : Format → List Record → Type 0
Back f rs = Fit f (fields_of f rs) × (field_records f (fields_of f rs) ≡ rs)

module _ (f : Format) (id : List ℕ) (r : Record) (rs : List Record) (k : Known f id (r ∷ rs)) where
  abbrev w : Fields
  w = fields_of f (r ∷ rs)

  first-form : Form f r
  unfolding every
  first-form = form-facts f r (both (form_of_record f r) (every (form_of_record f) rs) k.form).0

  first-plant : r.plant ≡ id
  unfolding every
  first-plant = same-equal r.plant id (both (same_bytes r.plant id) (every (λ q. same_bytes q.plant id) rs) k.plants).0

  schedule-digits : digits 10 r.schedule ≡ true
  schedule-digits = of-digits 10 r.schedule first-form.schedule

  start-digits : digits 12 r.start ≡ true
  start-digits = of-digits 12 r.start first-form.start

  plant-is : plant_id r.plant ≡ true
  plant-is = ap plant_id first-plant ∙ k.plant

  all-plants : every (λ q. same_bytes q.plant w.plant) (r ∷ rs) ≡ true
  all-plants = ap (λ (x : List ℕ). every (λ q. same_bytes q.plant x) (r ∷ rs)) first-plant ∙ k.plants

  all-schedules : every (λ q. same_bytes q.schedule w.schedule) (r ∷ rs) ≡ true
  unfolding every
  all-schedules = join (same_self r.schedule) k.shared

  all-fine : every (fine f w) (r ∷ rs) ≡ true
  all-fine = every-both _ _ (r ∷ rs) (every-both _ _ (r ∷ rs) (every-both _ _ (r ∷ rs) k.form k.checksums) all-plants) all-schedules

  -- the fields of whole months
  module _ (m : ℕ) (dated : months_from m (r ∷ rs) ≡ true) where
    first-month : WholeMonth m r
    unfolding months_from
    first-month = month-facts m r (both (whole_month m r) (months_from (suc m) rs) dated).0

    months-fit : months_fit (suc (length rs)) w ≡ true
    unfolding months_fit
    months-fit =
        let d = first-month in
        let date = d.date in
        let at = d.month in
        let begins = d.begins in
        let small = at_small r.start start-digits date in
        let inside = months-inside f (r ∷ rs) m k.form dated (omega arith) in
        let long : length (end_to_end (r ∷ rs)) ≡ first_slot (m + suc (length rs)) - first_slot m =
        months-long (r ∷ rs) m dated ∙ sym (slots-between (suc (length rs)) m) in
        rw at (join (join (join date begins) (le-leb (m + suc (length rs)) month_count inside)) (eq-eqb _ _ long))

    months-made : flag_digits f ≡ 0 → next_digits f ≡ 0 → month_records w (suc (length rs)) (month_at w.start) w.rates ≡ r ∷ rs
    months-made fl nx = rw first-month.month (months-back f fl nx w (r ∷ rs) m dated all-fine)

-- ---- each format
back-201 : (id : List ℕ) (r : Record) (rs : List Record) → Known F201 id (r ∷ rs) → months_from (month_at r.start) (r ∷ rs) ≡ true → Back F201 (r ∷ rs)
unfolding field_records digits_fit
back-201 id r rs k dated =
    let c : suc (length rs) ≡ 13 = k.count in (
      record {
        plant = plant-is F201 id r rs k;
        flag = rw (or-true (leb (get_or r.flag 0 0) 9)) refl;
        scheduled = refl;
        digits = join (join (schedule-digits F201 id r rs k) (start-digits F201 id r rs k)) refl;
        dates = rw c at (months-fit F201 id r rs k (month_at r.start) dated);
        rates = rates-joined (r ∷ rs) k.rates;
      },
      rw c at (months-made F201 id r rs k (month_at r.start) dated refl refl),
    )

back-202 : (id : List ℕ) (r : Record) (rs : List Record) (m : ℕ) → Known F202 id (r ∷ rs) → months_from m (r ∷ rs) ≡ true → Back F202 (r ∷ rs)
unfolding field_records digits_fit
back-202 id r rs m k dated =
    let c : suc (length rs) ≡ 1 = k.count in (
      record {
        plant = plant-is F202 id r rs k;
        flag = or-true (leb (get_or r.flag 0 0) 9 || false);
        scheduled = refl;
        digits = join (join (schedule-digits F202 id r rs k) (start-digits F202 id r rs k)) refl;
        dates = rw c at (months-fit F202 id r rs k m dated);
        rates = rates-joined (r ∷ rs) k.rates;
      },
      rw c at (months-made F202 id r rs k m dated refl refl),
    )

update-made : (r : Record) → Form F203 r → eqb (value r.checksum) (checksum_of r.start r.rates) ≡ true → update_record (fields_of F203 (r ∷ [])) ≡ r
unfolding update_record
update-made r g e =
    same-record (update_record (fields_of F203 (r ∷ []))) r refl refl refl (append-nil r.rates) (one_left r.flag g.flag.long)
    (ap (λ (x : List ℕ). decimal 2 (checksum_of r.start x)) (append-nil r.rates) ∙ sum_back r g.checksum e) refl

back-203 : (id : List ℕ) (r : Record) (rs : List Record) → Known F203 id (r ∷ rs) → every update_dates (r ∷ rs) ≡ true → Back F203 (r ∷ rs)
unfolding field_records digits_fit update_record every
back-203 id r (q ∷ rs) k dated = let c : suc (suc (length rs)) ≡ 1 = k.count in absurd (omega arith)
back-203 id r [] k dated =
    let g = first-form F203 id r [] k in
    let e = (both (eqb (value r.checksum) (checksum_of r.start r.rates)) true k.checksums).0 in
    let made = update-made r g e in
    let flag = le-leb (get_or r.flag 0 0) 9 (at-most-at 9 r.flag 0 g.flag.each) in
    let few : leb (length (r.rates ++ [])) 336 ≡ true = rw append-nil (le-leb (length r.rates) 336 g.few) in (
      record {
        plant = plant-is F203 id r [] k;
        flag = rw flag refl;
        scheduled = refl;
        digits = join (join (schedule-digits F203 id r [] k) (start-digits F203 id r [] k)) (join (of-digits 14 r.next g.next) few);
        dates = ap update_dates made ∙ (both (update_dates r) true dated).0;
        rates = rates-joined (r ∷ []) k.rates;
      },
      ap (λ (q : Record). q ∷ []) made,
    )

back : (f : Format) (n : Name) (rs : List Record) → Known f n.plant rs → record_dates n f rs ≡ true → Back f rs
back F201 n [] k e = absurd (omega arith)
back F201 n (r ∷ rs) k e = back-201 n.plant r rs k e
back F202 n [] k e = absurd (omega arith)
back F202 n (r ∷ rs) k e = back-202 n.plant r rs (segment_month n.segment) k e
back F203 n [] k e = absurd (omega arith)
back F203 n (r ∷ rs) k e = back-203 n.plant r rs k e
back F301 n rs k e = absurd (false≢true k.scheduled)

-- ---- the theorem
module _ (name body : List ℕ) (f : File) (rs : List Record) (room : ℕ) where
  abbrev fmt : Format
  fmt = f.name.format

  rewritten : FileBytes name body f → plant_id f.name.plant ≡ true → f.body ≡ schedule rs → shared_schedule rs ≡ true → length body ≤ room
      → write_body (fields_of fmt rs) room ≡ bytes body
  rewritten m id b shared h =
      let u = scheduled f rs m.rules b in
      let known : Known fmt f.name.plant rs = record {
        plant = id;
        scheduled = u.kind;
        count = u.count;
        form = u.form;
        rates = u.rates;
        checksums = u.checksums;
        plants = u.plants;
        shared = shared;
      } in
      let x = back fmt f.name rs known u.dates in
      let e : encode_body (schedule (field_records fmt (fields_of fmt rs))) ≡ body =
      ap (λ (q : List Record). encode_body (schedule q)) x.1 ∙ ap encode_body (sym b) ∙ sym m.body_bytes in
      facts-written (fields_of fmt rs) room fmt (number rs) x.0 (rw e h) ∙ ap bytes e
    where
      number : (rs : List Record) → format_of (fields_of fmt rs).format ≡ Some fmt
      number [] = format_back fmt
      number (r ∷ rs) = format_back fmt

pub read-written : ReadWritten
read-written name body f rs room e b shared h =
    let m = (read-without-plant name body f).0 e in
    rewritten name body f rs room m.0 m.1 b shared h

pub read-written-with-plant : ReadWrittenWithPlant
read-written-with-plant plant name body f rs room id e b shared h =
    let m = (read-with-plant plant name body f).0 e in
    rewritten name body f rs room m.0 (ap plant_id m.1 ∙ id) b shared h
