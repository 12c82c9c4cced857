-- Laws of the calendar: how months follow each other, and which month a slot lies in.
use Prim.Native.Nat.{ℕ, zero, suc, ◌+◌, ◌-◌, ◌*◌, ◌/◌, ◌%◌, ◌≤◌, ◌<◌}
use mathlib.Core.Path.{◌≡◌, refl, sym, ap, ◌∙◌}
use mathlib.Core.Bool.{Bool, true, false, cond, ◌&&◌}
use native.Mathlib.Omega.{arith}
use native.Mathlib.Nat.{add-suc, add-zero, zero-add}
use lib.Dec.{leb, ltb}
use borrow.Author.Tests.{le-ltb, ltb-true, ltb-false, leb-true, leb-false}
use Rattle.rules.specs.Calendar.{days_of_month, slots_of_month, first_day, first_slot, month_from, month_of_day, month_of_slot, slot_of, month_of}
use Rattle.rules.specs.Calendar.{slots_of_day, month_count, day_count, slot_count, day_length, slot_length}
use Rattle.laws.proofs.Tests.{both}
use Rattle.calendar.specs.Cycle.{every, Within}
use Rattle.calendar.proofs.Tests.{every-at}

-- ---- four years: 48 months, 1,461 days

-- 48 months later a month has as many days
days-again : (q k : ℕ) → days_of_month (48 * q + k) ≡ days_of_month k
unfolding days_of_month
days-again q k =
    let a : (48 * q + k) % 12 ≡ k % 12 = omega arith in
    let b : (48 * q + k) / 12 ≡ 4 * q + k / 12 = omega arith in
    let d : (2000 + (4 * q + k / 12)) % 4 ≡ (2000 + k / 12) % 4 = omega arith in
    rw (a, b, d)

-- a month has 28 to 31 days
pub days-range : (m : ℕ) → (28 ≤ days_of_month m) × (days_of_month m ≤ 31)
unfolding every days_of_month
days-range m =
    let split : m ≡ 48 * (m / 48) + m % 48 = omega arith in
    let again : days_of_month m ≡ days_of_month (m % 48) = ap days_of_month split ∙ days-again (m / 48) (m % 48) in
    let t = both _ _ (every-at 48 (λ k. leb 28 (days_of_month k) && leb (days_of_month k) 31) refl (m % 48) (omega arith)) in
    rw again (leb-true _ _ t.0, leb-true _ _ t.1)

-- the days before month 48 q + k are those of q times four years and those before month k
first-shift : (q k : ℕ) → first_day (48 * q + k) ≡ first_day (48 * q) + first_day k
unfolding first_day
first-shift q zero = rw (add-zero (48 * q)) (omega arith)
first-shift q (suc k) = rw (add-suc (48 * q) k) (omega (arith, first-shift q k, days-again q k))

first-cycles : (q : ℕ) → first_day (48 * q) ≡ 1461 * q
unfolding first_day days_of_month
first-cycles zero = refl
first-cycles (suc q) =
    let next : 48 * suc q ≡ 48 * q + 48 = omega arith in
    let four : first_day 48 ≡ 1461 = refl in
    rw next (omega (arith, first-shift q 48, first-cycles q, four))

pub first-cycle : (q k : ℕ) → first_day (48 * q + k) ≡ 1461 * q + first_day k
first-cycle q k = omega (arith, first-shift q k, first-cycles q)

pub first_split : (m : ℕ) → first_day m ≡ 1461 * (m / 48) + first_day (m % 48)
first_split m =
    let split : m ≡ 48 * (m / 48) + m % 48 = omega arith in
    ap first_day split ∙ first-cycle (m / 48) (m % 48)

-- the end of 2099
pub first-day-end : first_day month_count ≡ day_count
first-day-end = first-cycles 25

pub first-slot-end : first_slot month_count ≡ slot_count
first-slot-end = ap (λ (d : ℕ). slots_of_day * d) first-day-end

-- ---- months rise

pub first-day-step : (m : ℕ) → first_day (suc m) ≡ first_day m + days_of_month m
unfolding first_day
first-day-step m = refl

pub first-slot-step : (m : ℕ) → first_slot (suc m) ≡ first_slot m + slots_of_month m
first-slot-step m = omega (arith, first-day-step m)

pub first-day_rises : (m : ℕ) → first_day m < first_day (suc m)
first-day_rises m = omega (arith, first-day-step m, days-range m)

pub first-slot-rises : (m : ℕ) → first_slot m < first_slot (suc m)
first-slot-rises m = omega (arith, first-day_rises m)

first-day-add : (m k : ℕ) → first_day m ≤ first_day (m + k)
first-day-add m zero = rw (add-zero m) (omega arith)
first-day-add m (suc k) = rw (add-suc m k) (omega (arith, first-day-add m k, first-day_rises (m + k)))

pub first-day_monotone : (m n : ℕ) → m ≤ n → first_day m ≤ first_day n
first-day_monotone m n l = let split : n ≡ m + (n - m) = omega arith in rw split (first-day-add m (n - m))

pub first-slot-monotone : (m n : ℕ) → m ≤ n → first_slot m ≤ first_slot n
first-slot-monotone m n l = omega (arith, first-day_monotone m n l)

pub first-slot-strict : (m n : ℕ) → m < n → first_slot m < first_slot n
first-slot-strict m n l = omega (arith, first-slot-rises m, first-slot-monotone (suc m) n l)

-- no month is longer than 31 days
pub first_day_most : (m : ℕ) → first_day m ≤ 31 * m
unfolding first_day
first_day_most zero = omega arith
first_day_most (suc m) = omega (arith, first_day_most m, days-range m)

-- ---- the month of a day

-- no day lies in two months
day-before : (d m n : ℕ) → first_day m ≤ d → d < first_day (suc n) → m ≤ n
day-before d m n from until = go (leb m n) refl
  where
    go : (t : Bool) → leb m n ≡ t → m ≤ n
    go true e = leb-true m n e
    go false e = absurd (omega (arith, first-day_monotone (suc n) m (leb-false m n e)))

-- `month_from` finds the month, m or later, of the day that comes d days after the first of month m
month-from : (k m d : ℕ) → first_day m + d < first_day (m + k) → Within (m + k) (first_day m + d) (month_from k m d)
unfolding month_from
month-from zero m d l = absurd (let e : first_day (m + 0) ≡ first_day m = ap first_day (add-zero m) in omega arith)
month-from (suc k) m d l = go (ltb d (days_of_month m)) refl (month-from k (suc m) (d - days_of_month m))
  where
    later : ℕ
    later = month_from k (suc m) (d - days_of_month m)

    go : (t : Bool) → ltb d (days_of_month m) ≡ t
        → (first_day (suc m) + (d - days_of_month m) < first_day (suc m + k) → Within (suc m + k) (first_day (suc m) + (d - days_of_month m)) later)
        → Within (m + suc k) (first_day m + d) (cond t m later)
    go true e rest = record { few = omega arith; from = omega arith; until = omega (arith, ltb-true d (days_of_month m) e, first-day-step m) }
    go false e rest =
        let day : first_day (suc m) + (d - days_of_month m) ≡ first_day m + d = omega (arith, ltb-false d (days_of_month m) e, first-day-step m) in
        let end : suc m + k ≡ m + suc k = omega arith in
        rw (day, end) at (rest (rw (day, end) l))

-- `month_from` ends after k months
month-past : (k m d : ℕ) → first_day (m + k) ≤ first_day m + d → month_from k m d ≡ m + k
unfolding month_from
month-past zero m d l = sym (add-zero m)
month-past (suc k) m d l =
    let end : suc m + k ≡ m + suc k = omega arith in
    let step = first-day-step m in
    let next = first-day_monotone (suc m) (m + suc k) (omega arith) in
    let long : days_of_month m ≤ d = omega arith in
    let day : first_day (suc m) + (d - days_of_month m) ≡ first_day m + d = omega arith in
    rw (le-ltb d (days_of_month m) long) (month-past k (suc m) (d - days_of_month m) (rw (day, end) l) ∙ end)

-- a day before the end of 2099 lies in its month, one of 1200
pub day-within : (d : ℕ) → d < day_count → Within month_count d (month_of_day d)
unfolding month_of_day first_day
day-within d l = rw (zero-add d) at (month-from month_count 0 d (rw (first-day-end, zero-add d) l))

pub day_past : (d : ℕ) → day_count ≤ d → month_of_day d ≡ month_count
unfolding month_of_day first_day
day_past d l = month-past month_count 0 d (rw (first-day-end, zero-add d) l)

-- and in no other
pub day-month : (d m : ℕ) → Within month_count d m → month_of_day d ≡ m
day-month d m w =
    let end = first-day_monotone (suc m) month_count w.few in
    let v = day-within d (omega (arith, first-day-end, w.until)) in
    omega (arith, day-before d m (month_of_day d) w.from v.until, day-before d (month_of_day d) m v.from w.until)

-- ---- the month of a slot; 1,753,200 slots are 2000 to 2099

module _ (s : ℕ) where
  pub slot-month-few : s < slot_count → month_of_slot s < month_count
  slot-month-few l = (day-within (s / slots_of_day) (omega arith)).few

  pub slot-month-from : s < slot_count → first_slot (month_of_slot s) ≤ s
  slot-month-from l = let w = (day-within (s / slots_of_day) (omega arith)).from in omega arith

  pub slot-month-until : s < slot_count → s < first_slot (suc (month_of_slot s))
  slot-month-until l = let w = (day-within (s / slots_of_day) (omega arith)).until in omega arith

  pub slot-month-is : (m : ℕ) → m < month_count → first_slot m ≤ s → s < first_slot (suc m) → month_of_slot s ≡ m
  slot-month-is m few from until = day-month (s / slots_of_day) m (record { few = few; from = omega arith; until = omega arith })

  pub slot-month-past : slot_count ≤ s → month_of_slot s ≡ month_count
  slot-month-past l = day_past (s / slots_of_day) (omega arith)

  pub slot-month-most : month_of_slot s ≤ month_count
  slot-month-most = go (ltb s slot_count) refl
    where
      go : (t : Bool) → ltb s slot_count ≡ t → month_of_slot s ≤ month_count
      go true e = omega (arith, slot-month-few (ltb-true s slot_count e))
      go false e = omega (arith, slot-month-past (ltb-false s slot_count e))

pub slot-month-first : (m : ℕ) → m < month_count → month_of_slot (first_slot m) ≡ m
slot-month-first m few = slot-month-is (first_slot m) m few (omega arith) (first-slot-rises m)

pub slot-month-monotone : (a b : ℕ) → a ≤ b → month_of_slot a ≤ month_of_slot b
slot-month-monotone a b l = go (ltb b slot_count) refl
  where
    go : (t : Bool) → ltb b slot_count ≡ t → month_of_slot a ≤ month_of_slot b
    go true e =
        let h = ltb-true b slot_count e in
        let from = slot-month-from a (omega arith) in
        let until = slot-month-until b h in
        day-before (a / slots_of_day) (month_of_slot a) (month_of_slot b) (omega arith) (omega arith)
    go false e = omega (arith, slot-month-most a, slot-month-past b (ltb-false b slot_count e))

pub month-slot : (t : ℕ) → month_of t ≡ month_of_slot (slot_of t)
month-slot t = let e : t / day_length ≡ t / slot_length / slots_of_day = omega arith in ap month_of_day e
