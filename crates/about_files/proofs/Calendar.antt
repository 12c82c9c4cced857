-- Dates in digits: the start of a month, what its digits say, and that no other digits say it; the slots of consecutive months.
use Prim.Native.Nat.{ℕ, zero, suc, ◌+◌, ◌-◌, ◌/◌, ◌%◌, ◌≤◌, ◌<◌}
use mathlib.Core.Path.{◌≡◌, refl, ap}
use mathlib.Core.Bool.{Bool, true, false, ◌&&◌}
use mathlib.Core.List.{List, [], ◌∷◌}
use native.Mathlib.Omega.{arith}
use lib.Dec.{leb, eqb, lit≤}
use lib.ListN.{length, get_or}
use borrow.Author.Tests.{le-leb, leb-true, lt-ltb}
use Rattle.rules.specs.Digits.{part, all_at_most, value_from, value}
use Rattle.rules.specs.Calendar.{days_of_month, first_day, first_slot, slots_of_month, month_lengths, leap_day, year_in, month_in, day_in, hour_in, minute_in, second_in, exists, whole_minute}
use Rattle.laws.proofs.Tests.{both, join}
use Rattle.laws.proofs.Bytes.{at-most-at, part-front}
use Rattle.laws.proofs.Facts.{Date}
use Rattle.about_files.proofs.Pieces.{skip}

-- ---- the days of a month
abbrev all_at_least : ℕ → List ℕ → Bool
all_at_least least [] = true
all_at_least least (x ∷ xs) = leb least x && all_at_least least xs

get_d-least : (least : ℕ) (s : List ℕ) (i : ℕ) → all_at_least least s ≡ true → i < length s → least ≤ get_or s i 0
get_d-least least [] i e h = absurd (omega arith)
get_d-least least (x ∷ s) zero e h = leb-true least x (both (leb least x) (all_at_least least s) e).0
get_d-least least (x ∷ s) (suc i) e h = get_d-least least s i (both (leb least x) (all_at_least least s) e).1 (omega arith)

leap-most : (t : Bool) → leap_day t ≤ 1
leap-most true = lit≤ tt
leap-most false = lit≤ tt

module _ (m : ℕ) where
  pub days-most : days_of_month m ≤ 32
  unfolding days_of_month all_at_most
  days-most =
      let a = at-most-at 31 month_lengths (m % 12) refl in
      let b = leap-most (eqb (m % 12) 1 && eqb ((2000 + m / 12) % 4) 0) in
      omega arith

  pub days-least : 28 ≤ days_of_month m
  unfolding days_of_month
  days-least = let a = get_d-least 28 month_lengths (m % 12) refl (omega arith) in omega arith

-- ---- the slots of k months from m on
unfoldable pub slots_from : ℕ → ℕ → ℕ
slots_from zero m = 0
slots_from (suc k) m = slots_of_month m + slots_from k (suc m)

first-slots : (k m : ℕ) → first_slot (m + k) ≡ first_slot m + slots_from k m
unfolding slots_from first_day
first-slots zero m = let e : m + 0 ≡ m = omega arith in rw e (omega arith)
first-slots (suc k) m =
    let e : m + suc k ≡ suc m + k = omega arith in
    let i = first-slots k (suc m) in
    rw e (omega arith)

pub slots-between : (k m : ℕ) → first_slot (m + k) - first_slot m ≡ slots_from k m
slots-between k m = let e = first-slots k m in omega arith

-- ---- a start with its seconds
module _ (s : List ℕ) (l : length s ≡ 12) where
  front : (i k : ℕ) → i + k ≤ 12 → part (whole_minute s) i k ≡ part s i k
  front i k h = part-front s (0 ∷ 0 ∷ []) i k (omega arith)

  pub year-whole : year_in (whole_minute s) ≡ year_in s
  year-whole = ap value (front 0 4 (lit≤ tt))

  pub month-whole : month_in (whole_minute s) ≡ month_in s
  month-whole = ap value (front 4 2 (lit≤ tt))

  pub day-whole : day_in (whole_minute s) ≡ day_in s
  day-whole = ap value (front 6 2 (lit≤ tt))

  pub hour-whole : hour_in (whole_minute s) ≡ hour_in s
  hour-whole = ap value (front 8 2 (lit≤ tt))

  pub minute-whole : minute_in (whole_minute s) ≡ minute_in s
  minute-whole = ap value (front 10 2 (lit≤ tt))

  pub second-whole : second_in (whole_minute s) ≡ 0
  unfolding value_from
  second-whole = ap value (skip s (0 ∷ 0 ∷ []) l 0 2)

-- ---- the facts of a date make one
module _ (s : List ℕ) where
  pub facts-date : Date s → exists s ≡ true
  unfolding exists
  facts-date d =
      join
      (join
      (join
      (join
      (join
      (join
      (join (join (le-leb _ _ d.from2000) (le-leb _ _ d.to2099)) (le-leb _ _ d.month1))
      (le-leb _ _ d.month12))
      (le-leb _ _ d.day1))
      (le-leb _ _ d.day_last))
      (lt-ltb _ _ d.hour))
      (lt-ltb _ _ d.minute))
      (lt-ltb _ _ d.second)
