-- The records that the writer makes of whole months: their form, dates, rates and checksums.
use Prim.Native.Nat.{ℕ, zero, suc, ◌+◌, ◌%◌, ◌≤◌, ◌<◌}
use mathlib.Core.Path.{◌≡◌, ◌∙◌, refl, sym, ap}
use mathlib.Core.Bool.{Bool, true}
use mathlib.Core.List.{List, [], ◌∷◌, ◌++◌}
use native.Mathlib.Nat.{mod-lt}
use native.Mathlib.Omega.{arith}
use lib.Dec.{eqb}
use lib.ListN.{length, take, drop, length-take, length-drop, take-append-drop}
use lib.Seq.{length-take-le}
use borrow.Author.Tests.{eq-eqb}
use Rattle.rules.specs.Digits.{all_at_most, digits, value, decimal}
use Rattle.rules.specs.Calendar.{slots_of_month, month_in, day_in, month_count}
use Rattle.rules.specs.Body.{Record, most_rates, flag_digits, next_digits, form_of_record, every, highest_rate}
use Rattle.rules.specs.File.{whole_month, months_from, sum, checksum_of}
use Rattle.rules.specs.Writer.{Fields, month_start, month_record, month_records}
use Rattle.rules.specs.declared.Format.{Format}
use Rattle.laws.proofs.Tests.{both, join}
use Rattle.laws.proofs.Facts.{digits_of, Digits}
use Rattle.about_files.specs.Writing.{end_to_end}
use Rattle.about_files.proofs.Numerals.{all_append, value-decimal, decimal-digits}
use Rattle.about_files.proofs.Record.{facts-form}
use Rattle.about_files.proofs.Calendar.{days-most, slots_from}
use Rattle.about_files.proofs.MonthStart.{start-digits, start-begins, month-start, day-start, at-start, start-exists}

-- ---- rates, taken apart and together
module _ (most k : ℕ) (s : List ℕ) (e : all_at_most most s ≡ true) where
  halves : (all_at_most most (take k s) ≡ true) × (all_at_most most (drop k s) ≡ true)
  halves = both _ _ (sym (all_append most (take k s) (drop k s)) ∙ ap (all_at_most most) (take-append-drop k s) ∙ e)

-- a checksum of two digits, where month and day add up to 1 to 100
pub checksum-back : (start rates : List ℕ) → 1 ≤ month_in start + day_in start → month_in start + day_in start ≤ 100
    → value (decimal 2 (checksum_of start rates)) ≡ checksum_of start rates
unfolding checksum_of
checksum-back start rates h l =
    let n = month_in start + day_in start in
    let small : sum rates % n < n = mod-lt (sum rates) h in
    value-decimal 2 (sum rates % n) (omega arith)

-- no digits
nothing : Digits 0 []
unfolding all_at_most
nothing = record { long = refl; each = refl }

module _ (w : Fields) where
  pub months-length : (k m : ℕ) (rates : List ℕ) → length (month_records w k m rates) ≡ k
  unfolding month_records
  months-length zero m rates = refl
  months-length (suc k) m rates = ap suc (months-length k (suc m) (drop (slots_of_month m) rates))

  -- what holds of each month's record
  pub months-every : (p : Record → Bool) → ((m : ℕ) (rates : List ℕ) → p (month_record w m (take (slots_of_month m) rates)) ≡ true)
      → (k m : ℕ) (rates : List ℕ) → every p (month_records w k m rates) ≡ true
  unfolding month_records every
  months-every p h zero m rates = refl
  months-every p h (suc k) m rates = join (h m rates) (months-every p h k (suc m) (drop (slots_of_month m) rates))

  pub months-rates : (k m : ℕ) (rates : List ℕ) → all_at_most highest_rate rates ≡ true
      → every (λ r. all_at_most highest_rate r.rates) (month_records w k m rates) ≡ true
  unfolding month_records every
  months-rates zero m rates e = refl
  months-rates (suc k) m rates e =
      let h = halves highest_rate (slots_of_month m) rates e in
      join h.0 (months-rates k (suc m) (drop (slots_of_month m) rates) h.1)

  pub months-joined : (k m : ℕ) (rates : List ℕ) → length rates ≡ slots_from k m → end_to_end (month_records w k m rates) ≡ rates
  unfolding month_records slots_from
  months-joined zero m [] e = refl
  months-joined zero m (x ∷ rates) e = absurd (omega arith)
  months-joined (suc k) m rates e =
      let i = months-joined k (suc m) (drop (slots_of_month m) rates) (simp length-drop (omega arith)) in
      ap (λ (t : List ℕ). take (slots_of_month m) rates ++ t) i ∙ take-append-drop (slots_of_month m) rates

  pub months-dates : (k m : ℕ) (rates : List ℕ) → m + k ≤ month_count → length rates ≡ slots_from k m → months_from m (month_records w k m rates) ≡ true
  unfolding month_records months_from whole_month slots_from
  months-dates zero m rates h e = refl
  months-dates (suc k) m rates h e =
      let small : m < month_count = omega arith in
      let l : length (take (slots_of_month m) rates) ≡ slots_of_month m = length-take-le (slots_of_month m) rates (omega arith) in
      let i = months-dates k (suc m) (drop (slots_of_month m) rates) (omega arith) (simp length-drop (omega arith)) in
      join (join (join (join (start-exists m small) (eq-eqb _ _ (at-start m small))) (start-begins m)) (eq-eqb _ _ l)) i

  pub months-form : (f : Format) → flag_digits f ≡ 0 → next_digits f ≡ 0 → 1536 ≤ most_rates f
      → digits 10 w.schedule ≡ true → digits 26 w.plant ≡ true → (k m : ℕ) (rates : List ℕ) → every (form_of_record f) (month_records w k m rates) ≡ true
  months-form f fl nx most s p = months-every (form_of_record f) each
    where
      each : (m : ℕ) (rates : List ℕ) → form_of_record f (month_record w m (take (slots_of_month m) rates)) ≡ true
      each m rates =
          let l = length-take (slots_of_month m) rates in
          let d = days-most m in
          facts-form f (month_record w m (take (slots_of_month m) rates))
          (record {
            schedule = digits_of 10 w.schedule s;
            plant = digits_of 26 w.plant p;
            start = digits_of 12 (month_start m) (start-digits m);
            few = omega arith;
            flag = rw fl nothing;
            checksum = digits_of 2 _ (decimal-digits 2 (checksum_of (month_start m) (take (slots_of_month m) rates)));
            next = rw nx nothing;
          })

  pub months-checksums : (k m : ℕ) (rates : List ℕ)
      → every (λ r. eqb (value r.checksum) (checksum_of r.start r.rates)) (month_records w k m rates) ≡ true
  months-checksums =
      months-every (λ r. eqb (value r.checksum) (checksum_of r.start r.rates))
      (λ m rates.
      let a = month-start m in
      let b = day-start m in
      eq-eqb _ _ (checksum-back (month_start m) (take (slots_of_month m) rates) (omega arith) (omega arith)))
