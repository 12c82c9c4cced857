-- Laws of the search for a month: a right table of four years, and the guess that a day divided by 31 gives.
use Prim.Native.Nat.{ℕ, suc, ◌+◌, ◌*◌, ◌/◌, ◌%◌, ◌≤◌, ◌<◌}
use mathlib.Core.Path.{◌≡◌, refl, sym, ap}
use mathlib.Core.Bool.{Bool, true, false}
use mathlib.Core.List.{List}
use native.Mathlib.Numerals.{add-one}
use native.Mathlib.Omega.{arith}
use lib.Dec.{ltb, eqb}
use lib.ListN.{get_or}
use borrow.Author.Tests.{ltb-true, ltb-false, eqb-true}
use Rattle.rules.specs.Calendar.{days_of_month, first_day, month_of_day, month_count, day_count}
use Rattle.calendar.specs.Cycle.{every, right_table, Within}
use Rattle.calendar.proofs.Laws.{first-cycle, first_day_most, day-month}
use Rattle.calendar.proofs.Tests.{every-at}

module _ (t : List ℕ) (e : right_table t ≡ true) (k : ℕ) (l : k ≤ 48) where
  pub table_is : get_or t k 0 ≡ first_day k
  table_is = eqb-true _ _ (every-at 49 (λ k. eqb (get_or t k 0) (first_day k)) e k (omega arith))

-- k months have fewer than 31 days less than k months of 31 days
first-day-least : (k : ℕ) → k ≤ 48 → 31 * k < first_day k + 31
unfolding every first_day days_of_month
first-day-least k l = ltb-true _ _ (every-at 49 (λ k. ltb (31 * k) (first_day k + 31)) refl k (omega arith))

-- so a day divided by 31 is its month or the one before
pub guess_next : (d : ℕ) → d < 1461 → first_day (d / 31 + 1) ≤ d → Within 48 d (d / 31 + 1)
unfolding first_day days_of_month
guess_next d l from = go (ltb (d / 31) 47) refl
  where
    four : first_day 48 ≡ 1461
    four = refl

    go : (t : Bool) → ltb (d / 31) 47 ≡ t → Within 48 d (d / 31 + 1)
    go true e =
        let few = ltb-true (d / 31) 47 e in
        let least = first-day-least (suc (d / 31 + 1)) (omega arith) in
        record { few = omega arith; from = from; until = omega arith }
    go false e =
        let many = ltb-false (d / 31) 47 e in
        let last : d / 31 + 1 ≡ 48 = omega arith in
        absurd (omega (arith, ap first_day last, four))

pub guess_here : (d : ℕ) → d < 1461 → d < first_day (d / 31 + 1) → Within 48 d (d / 31)
guess_here d l until = record { few = omega arith; from = omega (arith, first_day_most (d / 31)); until = rw add-one at until }

-- a day of a later four years
within-cycle : (q d m : ℕ) → q < 25 → Within 48 d m → Within month_count (1461 * q + d) (48 * q + m)
within-cycle q d m l w =
    let next : suc (48 * q + m) ≡ 48 * q + suc m = omega arith in
    record {
      few = omega (arith, w.few);
      from = omega (arith, w.from, first-cycle q m);
      until = rw next (omega (arith, w.until, first-cycle q (suc m)));
    }

pub day_is : (d m : ℕ) → d < day_count → Within 48 (d % 1461) m → 48 * (d / 1461) + m ≡ month_of_day d
day_is d m l w =
    let split : 1461 * (d / 1461) + d % 1461 ≡ d = omega arith in
    sym (day-month d (48 * (d / 1461) + m) (rw split at (within-cycle (d / 1461) (d % 1461) m (omega arith) w)))
