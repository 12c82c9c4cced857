-- Laws of the months of a body, whose rates stand end to end: what is left after some of them, and how long they are.
use Prim.Native.Nat.{ℕ, zero, suc, ◌+◌, ◌-◌, ◌*◌, ◌≤◌, ◌<◌}
use mathlib.Core.Path.{◌≡◌, ◌∙◌, refl, sym, ap}
use mathlib.Core.List.{List, [], ◌++◌}
use native.Mathlib.Nat.{add-zero}
use native.Mathlib.Numerals.{add-one}
use native.Mathlib.Omega.{arith}
use lib.ListN.{length, take, drop, length-append, length-drop}
use lib.Seq.{drop-drop, length-take-le}
use Rattle.rules.specs.Calendar.{days_of_month, first_slot, slots_of_month, slots_of_day}
use Rattle.rules.specs.Body.{encode_record, encode_records}
use Rattle.rules.specs.Writer.{Fields, month_record, month_records}
use Rattle.calendar.proofs.Laws.{days-range, first-slot-step, first-slot-monotone}
use Rattle.plan.specs.Fields.{month_fields}
use Rattle.digits.specs.Placed.{placed}
use Rattle.writer.specs.Room.{MonthRoom, MonthsRoom}
use Rattle.digits.proofs.Placing.{placed-none, placed-next}
use Rattle.writer.proofs.Records.{month-length}

-- of the fields, months take over the schedule and the plant only
pub same_months : (w : Fields) (k m : ℕ) (rates : List ℕ) → month_records w k m rates ≡ month_records (month_fields w.plant w.schedule) k m rates
unfolding month_records
same_months w zero m rates = refl
same_months w (suc k) m rates = rw (same_months w k (suc m) (drop (slots_of_month m) rates)) refl

pub count-months : (w : Fields) (k m : ℕ) (rates : List ℕ) → length (month_records w k m rates) ≡ k
unfolding month_records
count-months w zero m rates = refl
count-months w (suc k) m rates = ap suc (count-months w k (suc m) (drop (slots_of_month m) rates))

-- a month's slots lie before the slots of a month after it
slots-before : (m n : ℕ) → m < n → first_slot m + slots_of_month m ≤ first_slot n
slots-before m n h = omega (arith, first-slot-step m, first-slot-monotone (suc m) n h)

module _ (schedule plant : List ℕ) where
  -- the bytes of k months
  abbrev pub months_bytes : ℕ → ℕ → List ℕ → List ℕ
  months_bytes k m rates = encode_records (month_records (month_fields plant schedule) k m rates)

  abbrev pub month_bytes : ℕ → List ℕ → List ℕ
  month_bytes m rates = encode_record (month_record (month_fields plant schedule) m rates)

  months-more : (k m : ℕ) (rates : List ℕ)
      → months_bytes (suc k) m rates ≡ month_bytes m (take (slots_of_month m) rates) ++ months_bytes k (suc m) (drop (slots_of_month m) rates)
  unfolding month_records encode_records
  months-more k m rates = refl

  months-none : (m : ℕ) (rates : List ℕ) → months_bytes 0 m rates ≡ []
  unfolding month_records encode_records
  months-none m rates = refl

  module _ (hs : length schedule ≡ 10) (hp : length plant ≡ 26) where
    pub months-length : (k m : ℕ) (rates : List ℕ) → first_slot m + length rates ≡ first_slot (m + k) → length (months_bytes k m rates) ≡ 55 * k + length rates
    months-length zero m rates full =
        let e : first_slot (m + 0) ≡ first_slot m = rw add-zero refl in
        rw (months-none m rates) (omega arith)
    months-length (suc k) m rates full =
        let s = slots_of_month m in
        let e : first_slot (m + suc k) ≡ first_slot (suc m + k) = ap first_slot (omega arith) in
        let before = slots-before m (suc m + k) (omega arith) in
        let enough : s ≤ length rates = omega arith in
        let short = length-take-le s rates enough in
        let left = length-drop s rates in
        let step = first-slot-step m in
        let rest = months-length k (suc m) (drop s rates) (omega arith) in
        rw (months-more k m rates)
        (length-append (month_bytes m (take s rates)) (months_bytes k (suc m) (drop s rates))
        ∙ omega (arith, month-length schedule plant (take s rates) m hs hp))

-- a loop that puts month after month: `month` is the next one, its w.rates begin at `from` and its record at `place`
pub record Going (before : List ℕ) (at : ℕ) (w : Fields) (first end : ℕ) (out : List ℕ) (month from place : ℕ) : Type 0 where
  pub order : month ≤ end
  pub full : first_slot month + length w.rates ≡ from + first_slot end
  pub enough : place + (55 * (end - month) + (length w.rates - from)) ≤ length out
  pub rest : placed out place (months_bytes w.schedule w.plant (end - month) month (drop from w.rates))
      ≡ placed before at (months_bytes w.schedule w.plant (end - first) first w.rates)

module _ {before : List ℕ} {at : ℕ} {w : Fields} {first end : ℕ} (h : MonthsRoom (length before) at w first end) where
  module _ {out : List ℕ} {month from place : ℕ} (g : Going before at w first end out month from place) where
    pub months-end : end ≤ month → out ≡ placed before at (months_bytes w.schedule w.plant (end - first) first w.rates)
    months-end l =
        let e : end - month ≡ 0 = omega arith in
        sym (placed-none out place) ∙ rw (e, months-none w.schedule w.plant month (drop from w.rates)) at g.rest

    module _ (days : ℕ) (d : days ≡ days_of_month month) (l : month < end) where
      -- the month's w.rates
      abbrev pub to : ℕ
      to = from + slots_of_day * days

      abbrev pub these : List ℕ
      these = take (to - from) (drop from w.rates)

      pub part-within : to ≤ length w.rates
      part-within = omega (arith, slots-before month end l, g.full, d)

      part_length : length these ≡ slots_of_day * days
      part_length =
          let within = part-within in
          let left = length-drop from w.rates in
          let e : to - from ≡ slots_of_day * days = omega arith in
          rw e (length-take-le (slots_of_day * days) (drop from w.rates) (omega arith))

      pub month-room : MonthRoom (length out) place w.schedule w.plant these
      month-room =
          let within = part-within in
          let p = part_length in
          let few = days-range month in
          record {
            schedule-long = h.given.schedule-long;
            plant-long = h.given.plant-long;
            few = omega arith;
            enough = omega (arith, g.enough);
          }

      pub months-step : {o : List ℕ} → length o ≡ length out → o ≡ placed out place (month_bytes w.schedule w.plant month these)
          → Going before at w first end o (month + 1) to (place + (55 + slots_of_day * days))
      months-step {o} len p =
          let within = part-within in
          let pl = part_length in
          let ml = month-length w.schedule w.plant these month h.given.schedule-long h.given.plant-long in
          let k : end - month ≡ suc (end - (month + 1)) = omega arith in
          let e : to - from ≡ slots_of_month month = omega arith in
          let back : from + (to - from) ≡ to = omega arith in
          let left : List ℕ = drop from w.rates in
          let k' = end - (month + 1) in
          let after = months_bytes w.schedule w.plant k' (month + 1) (drop to w.rates) in
          let bytes : months_bytes w.schedule w.plant (end - month) month left ≡ month_bytes w.schedule w.plant month these ++ after =
          rw (k, months-more w.schedule w.plant k' month left, drop-drop (slots_of_month month) from w.rates, ← e, back, add-one month) refl in
          let step = first-slot-step month in
          let next : first_slot (month + 1) ≡ first_slot (suc month) = rw add-one refl in
          record {
            order = omega arith;
            full = omega (arith, g.full);
            enough = omega (arith, g.enough);
            rest =
                placed-next out (month_bytes w.schedule w.plant month these) after place p (omega arith)
                ∙ ap (placed out place) (sym bytes)
                ∙ g.rest;
          }
