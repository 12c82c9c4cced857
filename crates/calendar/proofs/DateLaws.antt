-- Laws of dates in digits: which tests decide them, and that every date stands before the end of 2099.
use Rattle.std.specs.Prelude.{Some, None}
use Rattle.std.proofs.lemmas.Option.{cond_some}
use Prim.Native.Nat.{ℕ, ◌+◌, ◌-◌, ◌*◌, ◌≤◌, ◌<◌}
use mathlib.Core.Path.{◌≡◌, refl, sym, ap, ◌∙◌}
use mathlib.Core.Bool.{Bool, true, cond, ◌&&◌, and_assoc}
use mathlib.Core.List.{List, [], ◌∷◌, ◌++◌}
use native.Mathlib.Omega.{arith}
use lib.Dec.{leb}
use lib.ListN.{length, length-append}
use borrow.Author.Tests.{ltb-true, leb-true, eq-eqb}
use Rattle.rules.specs.Digits.{part, value, all_at_most, all_digits, digits}
use Rattle.rules.specs.Calendar.{first_day, slot_of, month_count, day_count, end_of_time, slot_count}
use Rattle.rules.specs.Calendar.{year_in, month_in, day_in, hour_in, minute_in, second_in, month_at, exists, seconds_of, moment}
use Rattle.rules.specs.Calendar.{whole_minute, half_hour, start_slot}
use Rattle.laws.proofs.Tests.{both}
use Rattle.calendar.specs.Moments.{month_exists, day_exists, time_exists, Dated, second_at}
use Rattle.calendar.proofs.Laws.{first-day-step, first-day_monotone, first-day-end}
use Rattle.calendar.proofs.Scan.{four_is}

-- ---- numbers that are a date

pub record MonthFacts (y m : ℕ) : Type 0 where
  pub from : 2000 ≤ y
  pub until : y ≤ 2099
  pub first : 1 ≤ m
  pub last : m ≤ 12

pub month-facts : (y m : ℕ) → month_exists y m ≡ true → MonthFacts y m
month-facts y m e =
    let e₃ = both _ _ e in
    let e₂ = both _ _ e₃.0 in
    let e₁ = both _ _ e₂.0 in
    record { from = leb-true _ _ e₁.0; until = leb-true _ _ e₁.1; first = leb-true _ _ e₂.1; last = leb-true _ _ e₃.1 }

pub dated : (y m d h i s : ℕ) → month_exists y m ≡ true → (day_exists (12 * (y - 2000) + (m - 1)) d && time_exists h i s) ≡ true
    → Dated (12 * (y - 2000) + (m - 1)) d h i s
dated y m d h i s e f =
    let g = month-facts y m e in
    let few : 12 * (y - 2000) + (m - 1) < month_count = omega arith in
    let dt = both _ _ f in
    let d₁ = both _ _ dt.0 in
    let t₂ = both _ _ dt.1 in
    let t₁ = both _ _ t₂.0 in
    record {
      month = few;
      first = leb-true _ _ d₁.0;
      last = leb-true _ _ d₁.1;
      hour = ltb-true _ _ t₁.0;
      minute = ltb-true _ _ t₁.1;
      second = ltb-true _ _ t₂.1;
    }

module _ {m d h i s : ℕ} (w : Dated m d h i s) where
  pub date_day : first_day m + (d - 1) < day_count
  date_day = omega (arith, w.first, w.last, first-day-step m, first-day_monotone _ month_count w.month, first-day-end)

  pub date_below : second_at m d h i s < end_of_time
  date_below = omega (arith, date_day, w.hour, w.minute, w.second)

-- the year of two pairs
pub year_is : (s : List ℕ) → 4 ≤ length s → year_in s ≡ 100 * value (part s 0 2) + value (part s 2 2)
year_is s h = omega (arith, four_is s 0 h)

-- ---- 14 digits

module _ (s : List ℕ) where
  pub exists_is : exists s
      ≡ (month_exists (year_in s) (month_in s) && (day_exists (month_at s) (day_in s) && time_exists (hour_in s) (minute_in s) (second_in s)))
  unfolding exists
  exists_is = simp and_assoc

  pub exists_below : exists s ≡ true → seconds_of s < end_of_time
  unfolding seconds_of
  exists_below e =
      let t = both _ _ (sym exists_is ∙ e) in
      date_below (dated (year_in s) (month_in s) (day_in s) (hour_in s) (minute_in s) (second_in s) t.0 t.1)

  -- the same by the pairs that are read
  pub date_is : 4 ≤ length s
      → let y = 100 * value (part s 0 2) + value (part s 2 2) in
      let n = 12 * (y - 2000) + (month_in s - 1) in
      (exists s ≡ (month_exists y (month_in s) && (day_exists n (day_in s) && time_exists (hour_in s) (minute_in s) (second_in s))))
      × (seconds_of s ≡ second_at n (day_in s) (hour_in s) (minute_in s) (second_in s))
  unfolding seconds_of
  date_is h = rw (← year_is s h) (exists_is, refl)

  moment-is : length s ≡ 14 → moment s ≡ cond (all_digits s && exists s) (Some (seconds_of s)) None
  unfolding moment
  moment-is full = rw (eq-eqb (length s) 14 full) refl

-- ---- 12 digits

module _ (s : List ℕ) where
  digits-whole : all_digits (whole_minute s) ≡ all_digits s
  unfolding all_at_most
  digits-whole = go s
    where
      go : (t : List ℕ) → all_at_most 9 (t ++ 0 ∷ 0 ∷ []) ≡ all_at_most 9 t
      go [] = refl
      go (x ∷ t) = ap (λ (b : Bool). leb x 9 && b) (go t)

  -- what reading a start as 14 digits answers
  pub whole_is : length s ≡ 12 → moment (whole_minute s) ≡ cond (all_digits s && exists (whole_minute s)) (Some (seconds_of (whole_minute s))) None
  whole_is full =
      let long = length-append s (0 ∷ 0 ∷ []) in
      moment-is (whole_minute s) (omega arith) ∙ rw digits-whole refl

-- ---- the answers

pub start-below : (s : List ℕ) (k : ℕ) → start_slot s ≡ Some k → k < slot_count
unfolding start_slot
start-below s k e =
    let w = whole_minute s in
    let r = cond_some (digits 12 s && exists w && half_hour s) (slot_of (seconds_of w)) k e in
    let there = (both (digits 12 s) (exists w) (both (digits 12 s && exists w) (half_hour s) r.0).0).1 in
    omega (arith, exists_below w there, r.1)
