-- Records of whole months (201, 202) follow each other, one month a record.
use mathlib.Core.Path.{◌≡◌, refl, sym, ap, ap₂, ◌∙◌, subst}
use mathlib.Core.Bool.{Bool, true, false}
use mathlib.Core.List.{List, [], ◌∷◌, ◌++◌}
use Prim.Native.Nat.{ℕ, suc, ◌+◌, ◌-◌, ◌*◌, ◌/◌, ◌≤◌, ◌<◌, min}
use native.Mathlib.Omega.{arith}
use lib.Dec.{leb}
use lib.ListN.{length, take, drop, length-take, length-drop, take-append-drop}
use lib.Seq.{drop-drop, drop-append-le}
use borrow.Author.Tests.{leb-true, leb-false}
use Rattle.rules.specs.Digits.{part, all_at_most, value_from, value}
use Rattle.rules.specs.Calendar.{first_day, first_slot, slots_of_month, month_of_slot, day_in, hour_in, minute_in, second_in}
use Rattle.rules.specs.Calendar.{month_at, exists, seconds_of, whole_minute, slot_length, day_length, slots_of_day, month_count, last_month, slot_count}
use Rattle.rules.specs.Body.{Record, every, highest_rate}
use Rattle.rules.specs.File.{start_of, month_begins, whole_month, months_from}
use Rattle.laws.proofs.Tests.{both}
use Rattle.laws.proofs.Bytes.{same-equal, part-front}
use Rattle.laws.proofs.Facts.{date-facts, month-facts}
use Rattle.calendar.proofs.Laws.{first-slot-step, first-slot-end, first-slot-monotone, first-slot-rises, slot-month-first}
use Rattle.calendar.proofs.DateLaws.{exists_below}
use Rattle.about_store.specs.Run.{RunFrom}

-- ---- 'the start is day 01, 00:00'

module _ (s : List ℕ) (e : month_begins s ≡ true) where
  first-bytes : part s 6 6 ≡ 0 ∷ 1 ∷ 0 ∷ 0 ∷ 0 ∷ 0 ∷ []
  first-bytes = same-equal (part s 6 6) (0 ∷ 1 ∷ 0 ∷ 0 ∷ 0 ∷ 0 ∷ []) e

  twelve : 12 ≤ length s
  twelve =
      let six : min 6 (length s - 6) ≡ 6 = sym (length-take 6 (drop 6 s) ∙ ap (λ (n : ℕ). min 6 n) (length-drop 6 s)) ∙ ap length first-bytes in
      omega arith

  -- a part of the first twelve bytes
  front : (i n : ℕ) → i + n ≤ 12 → part (whole_minute s) i n ≡ part s i n
  front i n l = part-front s (0 ∷ 0 ∷ []) i n (omega (arith, twelve))

  -- what follows the month
  back : drop 6 (whole_minute s) ≡ 0 ∷ 1 ∷ 0 ∷ 0 ∷ 0 ∷ 0 ∷ (drop 6 (drop 6 s) ++ 0 ∷ 0 ∷ [])
  back =
      drop-append-le 6 s (0 ∷ 0 ∷ []) (omega (arith, twelve))
      ∙ ap (λ (l : List ℕ). l ++ 0 ∷ 0 ∷ []) (sym (take-append-drop 6 (drop 6 s)) ∙ ap (λ (l : List ℕ). l ++ drop 6 (drop 6 s)) first-bytes)

  behind : (j n : ℕ) → part (whole_minute s) (6 + j) n ≡ take n (drop j (0 ∷ 1 ∷ 0 ∷ 0 ∷ 0 ∷ 0 ∷ (drop 6 (drop 6 s) ++ 0 ∷ 0 ∷ [])))
  behind j n = ap (take n) (sym (drop-drop j 6 (whole_minute s)) ∙ ap (drop j) back)

  month-same : month_at (whole_minute s) ≡ month_at s
  month-same = ap₂ (λ (y m : ℕ). 12 * (y - 2000) + (m - 1)) (ap value (front 0 4 (omega arith))) (ap value (front 4 2 (omega arith)))

  day-one : day_in (whole_minute s) ≡ 1
  unfolding value_from
  day-one = ap value (behind 0 2)

  hour-zero : hour_in (whole_minute s) ≡ 0
  unfolding value_from
  hour-zero = ap value (behind 2 2)

  minute-zero : minute_in (whole_minute s) ≡ 0
  unfolding value_from
  minute-zero = ap value (behind 4 2)

  month-slot : (m : ℕ) → exists (whole_minute s) ≡ true → month_at s ≡ m → seconds_of (whole_minute s) / slot_length ≡ first_slot m
  unfolding seconds_of
  month-slot m there is =
      let w = whole_minute s in
      let sec : second_in w < 60 = (date-facts w there).second in
      let f : first_day (month_at w) ≡ first_day m = ap first_day (month-same ∙ is) in
      plain (first_day (month_at w)) (first_day m) (day_in w) (hour_in w) (minute_in w) (second_in w) f day-one hour-zero minute-zero sec
    where
      plain : (F G d h i x : ℕ) → F ≡ G → d ≡ 1 → h ≡ 0 → i ≡ 0 → x < 60
          → (day_length * (F + (d - 1)) + (3600 * h + 60 * i + x)) / slot_length ≡ slots_of_day * G
      plain F G d h i x a b c e l = rw (a, b, c, e) (omega arith)

-- ---- whole months

pub record MonthOf (m : ℕ) (r : Record) : Type 0 where
  pub start : start_of r ≡ first_slot m
  pub count : length r.rates ≡ slots_of_month m
  pub few : m < month_count

pub month-of : (m : ℕ) (r : Record) → whole_month m r ≡ true → MonthOf m r
month-of m r e =
    let w = month-facts m r e in
    let at-month = month-slot r.start w.begins m w.date w.month in
    record {
      start = at-month;
      count = w.full;
      few = below m (omega (arith, exists_below (whole_minute r.start) w.date)) (leb m last_month) refl;
    }
  where
    below : (m : ℕ) → first_slot m < slot_count → (x : Bool) → leb m last_month ≡ x → m < month_count
    below m l true q = omega (arith, leb-true m last_month q)
    below m l false q = absurd (omega (arith, first-slot-end, first-slot-monotone month_count m (leb-false m last_month q)))

-- '13 consecutive months, rising', or one month: their records are a run from the first month's first slot on
pub months-run : (m : ℕ) (rs : List Record) → months_from m rs ≡ true → every (λ r. all_at_most highest_rate r.rates) rs ≡ true → RunFrom (first_slot m) rs
unfolding months_from every
months-run m [] e low = tt
months-run m (r ∷ rs) e low =
    let w = month-of m r (both (whole_month m r) (months_from (suc m) rs) e).0 in
    let next = first-slot-step m in
    let end = first-slot-monotone (suc m) month_count w.few in
    let last = first-slot-end in
    let is : month_of_slot (start_of r) ≡ m = ap month_of_slot w.start ∙ slot-month-first m w.few in
    let on : first_slot m + length r.rates ≡ first_slot (suc m) = omega (arith, w.count) in
    let lows = both (all_at_most highest_rate r.rates) (every (λ r. all_at_most highest_rate r.rates) rs) low in
    let rest = months-run (suc m) rs (both (whole_month m r) (months_from (suc m) rs) e).1 lows.1 in (
      w.start,
      record {
        begins = omega (arith, w.start, first-slot-rises m);
        ends = omega (arith, w.start);
        near = rw is (omega (arith, w.start, first-slot-rises (suc m)));
        rates = (both (all_at_most highest_rate r.rates) (every (λ r. all_at_most highest_rate r.rates) rs) low).0;
      },
      subst (λ (s : ℕ). RunFrom s rs) (sym on) rest,
    )
