-- The month that digits begin, and the tests of a date in the code's order.
use Rattle.std.specs.Prelude.{ℕ, ◌+◌, ◌-◌, ◌*◌, ◌≤◌, ◌<◌, Bool, cond, ◌&&◌, List, leb, ltb, Some, None, Option}
use Rattle.rules.specs.Digits.{digits}
use Rattle.rules.specs.Calendar.{day_length, days_of_month, first_day, month_count, month_at, exists, whole_minute}
use Rattle.rules.specs.File.{month_begins}

-- 'the start is day 01, 00:00': 12 digits that are a date and begin a month
unfoldable pub month_begun : List ℕ → Option ℕ
month_begun s = cond (digits 12 s && exists (whole_minute s) && month_begins s) (Some (month_at s)) None

-- 'a year 2000 to 2099', and a month of it
abbrev pub month_exists : ℕ → ℕ → Bool
month_exists year month = leb 2000 year && leb year 2099 && leb 1 month && leb month 12

abbrev pub day_exists : ℕ → ℕ → Bool
day_exists m d = leb 1 d && leb d (days_of_month m)

abbrev pub time_exists : ℕ → ℕ → ℕ → Bool
time_exists h i s = ltb h 24 && ltb i 60 && ltb s 60

-- day d of month m, at h hours, i minutes and s seconds, is a time of 2000 to 2099
pub record Dated (m d h i s : ℕ) : Type 0 where
  pub month : m < month_count
  pub first : 1 ≤ d
  pub last : d ≤ days_of_month m
  pub hour : h < 24
  pub minute : i < 60
  pub second : s < 60

-- the second at which it stands
abbrev pub second_at : ℕ → ℕ → ℕ → ℕ → ℕ → ℕ
second_at m d h i s = day_length * (first_day m + (d - 1)) + (3600 * h + 60 * i + s)
