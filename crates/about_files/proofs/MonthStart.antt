-- The start of a month as digits: what they say, and that no other digits say it.
use Prim.Native.Nat.{ℕ, ◌+◌, ◌/◌, ◌%◌, ◌≤◌, ◌<◌}
use mathlib.Core.Path.{◌≡◌, ◌∙◌, refl, sym, ap}
use mathlib.Core.Bool.{true}
use mathlib.Core.List.{List, [], ◌∷◌, ◌++◌}
use native.Mathlib.Omega.{arith}
use lib.Dec.{lit<, lit≤}
use lib.ListN.{length, length-append, drop_of_length-le}
use lib.Seq.{take_all}
use Rattle.rules.specs.Digits.{part, all_at_most, all_digits, digits, value_from, value, decimal}
use Rattle.rules.specs.Calendar.{year_in, month_in, day_in, hour_in, minute_in, month_at, exists, whole_minute, month_count}
use Rattle.rules.specs.File.{month_begins}
use Rattle.rules.specs.Writer.{month_start}
use Rattle.laws.proofs.Tests.{join}
use Rattle.laws.proofs.Bytes.{same-equal, equal-same, length-decimal, part_length}
use Rattle.laws.proofs.Facts.{date-facts, digits_of}
use Rattle.about_files.proofs.Numerals.{all_append, digits_decimal, value-decimal, decimal-value, facts-digits}
use Rattle.about_files.proofs.Pieces.{piece, digits-apart, here, skip}
use Rattle.about_files.proofs.Calendar.{days-least, days-most, year-whole, month-whole, day-whole, hour-whole, minute-whole, second-whole, facts-date}

-- day 01, 00:00
abbrev first_moment : List ℕ
first_moment = 0 ∷ 1 ∷ 0 ∷ 0 ∷ 0 ∷ 0 ∷ []

module _ (m : ℕ) where
  abbrev year : List ℕ
  year = decimal 4 (2000 + m / 12)

  abbrev month : List ℕ
  month = decimal 2 (m % 12 + 1)

  l-year : length year ≡ 4
  l-year = length-decimal 4 (2000 + m / 12)

  l-month : length month ≡ 2
  l-month = length-decimal 2 (m % 12 + 1)

  pub start-long : length (month_start m) ≡ 12
  start-long = let a = l-year in let b = l-month in simp length-append (omega arith)

  pub start-digits : digits 12 (month_start m) ≡ true
  unfolding all_at_most
  start-digits =
      facts-digits 12 (month_start m) start-long
      (all_append 9 year (month ++ first_moment)
      ∙ join (digits_decimal 4 (2000 + m / 12)) (all_append 9 month first_moment ∙ join (digits_decimal 2 (m % 12 + 1)) refl))

  past : (i k : ℕ) → part (month_start m) (6 + i) k ≡ part first_moment i k
  past i k =
      let e : 6 + i ≡ 4 + (2 + i) = omega arith in
      rw e (skip year (month ++ first_moment) l-year (2 + i) k ∙ skip month first_moment l-month i k)

  pub month-start : month_in (month_start m) ≡ m % 12 + 1
  month-start =
      ap value (skip year (month ++ first_moment) l-year 0 2 ∙ here month first_moment l-month) ∙ value-decimal 2 (m % 12 + 1) (omega arith)

  pub day-start : day_in (month_start m) ≡ 1
  unfolding value_from
  day-start = ap value (past 0 2)

  hour-start : hour_in (month_start m) ≡ 0
  unfolding value_from
  hour-start = ap value (past 2 2)

  minute-start : minute_in (month_start m) ≡ 0
  unfolding value_from
  minute-start = ap value (past 4 2)

  pub start-begins : month_begins (month_start m) ≡ true
  start-begins = equal-same (past 0 6)

  module _ (h : m < month_count) where
    year-start : year_in (month_start m) ≡ 2000 + m / 12
    year-start = ap value (here year (month ++ first_moment) l-year) ∙ value-decimal 4 (2000 + m / 12) (omega arith)

    pub at-start : month_at (month_start m) ≡ m
    at-start = rw (year-start, month-start) (omega arith)

    at-whole : month_at (whole_minute (month_start m)) ≡ m
    at-whole = rw (year-whole (month_start m) start-long, month-whole (month_start m) start-long) at-start

    pub start-exists : exists (whole_minute (month_start m)) ≡ true
    start-exists =
        let s = month_start m in
        let a = year-whole s start-long ∙ year-start in
        let b = month-whole s start-long ∙ month-start in
        let c = day-whole s start-long ∙ day-start in
        let d = hour-whole s start-long ∙ hour-start in
        let e = minute-whole s start-long ∙ minute-start in
        let g = second-whole s start-long in
        let n = days-least m in
        facts-date (whole_minute s)
        (record {
          from2000 = rw a (omega arith);
          to2099 = rw a (omega arith);
          month1 = rw b (omega arith);
          month12 = rw b (omega arith);
          day1 = rw c (lit≤ tt);
          day_last = rw (c, at-whole) (omega arith);
          hour = rw d (lit< tt);
          minute = rw e (lit< tt);
          second = rw g (lit< tt);
        })

-- ---- 12 digits that are the start of a month
module _ (s : List ℕ) (d : digits 12 s ≡ true) (e : exists (whole_minute s) ≡ true) where
  l : length s ≡ 12
  l = (digits_of 12 s d).long

  pub start-year : (2000 ≤ year_in s) × (year_in s ≤ 2099)
  start-year = let a = date-facts (whole_minute s) e in (rw (year-whole s l) at a.from2000, rw (year-whole s l) at a.to2099)

  pub start-month : (1 ≤ month_in s) × (month_in s ≤ 12)
  start-month = let a = date-facts (whole_minute s) e in (rw (month-whole s l) at a.month1, rw (month-whole s l) at a.month12)

  pub start-day : day_in s ≤ 32
  start-day =
      let a = (date-facts (whole_minute s) e).day_last in
      let b = day-whole s l in
      let c = days-most (month_at (whole_minute s)) in
      omega arith

  pub at_small : month_at s < month_count
  at_small =
      let y = start-year in
      let n = start-month in
      let y₁ = y.1 in
      let n₁ = n.1 in
      omega arith

  pub start_is : month_begins s ≡ true → s ≡ month_start (month_at s)
  start_is b =
      let y = start-year in
      let n = start-month in
      let y₀ = y.0 in
      let y₁ = y.1 in
      let n₀ = n.0 in
      let n₁ = n.1 in
      let ds = (digits_of 12 s d).each in
      let ll = l in
      let few : length s ≤ 12 = omega arith in
      let ds₁ = digits-apart s 0 4 8 (ap all_digits (take_all 12 s few) ∙ ds) in
      let ds₂ = digits-apart s 4 2 6 ds₁.1 in
      let year : part s 0 4 ≡ decimal 4 (2000 + month_at s / 12) =
      sym (decimal-value (part s 0 4) 4 (part_length s 0 4 (omega arith)) ds₁.0) ∙ ap (decimal 4) (omega arith) in
      let month : part s 4 2 ≡ decimal 2 (month_at s % 12 + 1) =
      sym (decimal-value (part s 4 2) 2 (part_length s 4 2 (omega arith)) ds₂.0) ∙ ap (decimal 2) (omega arith) in
      piece s 0 4 year (piece s 4 2 month (piece s 6 6 (same-equal (part s 6 6) first_moment b) (drop_of_length-le s few)))
