-- The calendar of 2000 to 2099 (01, Time, plant, settings): seconds, slots, days and months, and dates in digits.
use Rattle.std.specs.Prelude.{ℕ, zero, suc, ◌+◌, ◌-◌, ◌*◌, ◌/◌, ◌%◌, Bool, true, false, cond, ◌&&◌, ◌||◌, List, [], ◌∷◌, ◌++◌, get_or, leb, ltb, eqb, Option, None, Some}
use Rattle.rules.specs.Digits.{part, value, digits}

-- 'A slot is 1,800 s'; 48 slots are a day
abbrev pub slot_length : ℕ
slot_length = 1800

abbrev pub slots_of_day : ℕ
slots_of_day = 48

abbrev pub day_length : ℕ
day_length = slots_of_day * slot_length

-- 'below T = 3,155,760,000 (end of 2099)': 100 years are 36,525 days
abbrev pub day_count : ℕ
day_count = 36525

abbrev pub slot_count : ℕ
slot_count = day_count * slots_of_day

-- T
abbrev pub end_of_time : ℕ
end_of_time = slot_count * slot_length

-- 'Months are numbered from January 2000 = 0 to 1199'
abbrev pub month_count : ℕ
month_count = 1200

abbrev pub last_month : ℕ
last_month = month_count - 1

-- the days of the longest months
abbrev pub longest_month : ℕ
longest_month = 31

-- from 2000 to 2099 every fourth year is a leap year: 2000 is one, and no other year here ends in 00
abbrev pub leap_year : ℕ → Bool
leap_year year = eqb (year % 4) 0

-- January to December, of a year that is not a leap year
abbrev pub month_lengths : List ℕ
month_lengths = 31 ∷ 28 ∷ 31 ∷ 30 ∷ 31 ∷ 30 ∷ 31 ∷ 31 ∷ 30 ∷ 31 ∷ 30 ∷ 31 ∷ []

abbrev pub leap_day : Bool → ℕ
leap_day true = 1
leap_day false = 0

-- the days of month m
unfoldable pub days_of_month : ℕ → ℕ
days_of_month m = get_or month_lengths (m % 12) 0 + leap_day (eqb (m % 12) 1 && leap_year (2000 + m / 12))

-- the days before month m
unfoldable pub first_day : ℕ → ℕ
first_day zero = 0
first_day (suc m) = first_day m + days_of_month m

-- the first slot of month m, and how many slots it has
abbrev pub first_slot : ℕ → ℕ
first_slot m = slots_of_day * first_day m

abbrev pub slots_of_month : ℕ → ℕ
slots_of_month m = slots_of_day * days_of_month m

-- the month of the day that comes d days after the first of month m; looks at k months, and ends in month m + k
unfoldable pub month_from : ℕ → ℕ → ℕ → ℕ
month_from zero m d = m
month_from (suc k) m d =
    let later = month_from k (suc m) (d - days_of_month m) in
    cond (ltb d (days_of_month m)) m later

-- the month of a day; `month_count` from the end of 2099 on
unfoldable pub month_of_day : ℕ → ℕ
month_of_day d = month_from month_count 0 d

abbrev pub month_of_slot : ℕ → ℕ
month_of_slot s = month_of_day (s / slots_of_day)

abbrev pub slot_of : ℕ → ℕ
slot_of t = t / slot_length

abbrev pub month_of : ℕ → ℕ
month_of t = month_of_day (t / day_length)

-- seconds since the day's midnight
abbrev pub time_of_day : ℕ → ℕ
time_of_day t = t % day_length

-- ---- dates in digits: YYYYMMDDhhmmss

abbrev pub year_in : List ℕ → ℕ
year_in s = value (part s 0 4)

abbrev pub month_in : List ℕ → ℕ
month_in s = value (part s 4 2)

abbrev pub day_in : List ℕ → ℕ
day_in s = value (part s 6 2)

abbrev pub hour_in : List ℕ → ℕ
hour_in s = value (part s 8 2)

abbrev pub minute_in : List ℕ → ℕ
minute_in s = value (part s 10 2)

abbrev pub second_in : List ℕ → ℕ
second_in s = value (part s 12 2)

-- a month of a year, as a month's number
abbrev pub month_number : ℕ → ℕ → ℕ
month_number year month = 12 * (year - 2000) + (month - 1)

abbrev pub month_at : List ℕ → ℕ
month_at s = month_number (year_in s) (month_in s)

-- 'Every date here has a year 2000 to 2099 and must exist'
unfoldable pub exists : List ℕ → Bool
exists s =
    leb 2000 (year_in s)
    && leb (year_in s) 2099
    && leb 1 (month_in s)
    && leb (month_in s) 12
    && leb 1 (day_in s)
    && leb (day_in s) (days_of_month (month_at s))
    && ltb (hour_in s) 24
    && ltb (minute_in s) 60
    && ltb (second_in s) 60

-- the second at which a date that exists stands
unfoldable pub seconds_of : List ℕ → ℕ
seconds_of s =
    day_length * (first_day (month_at s) + (day_in s - 1))
    + (3600 * hour_in s + 60 * minute_in s + second_in s)

-- 14 digits that are a date: its second; anything else: none
unfoldable pub moment : List ℕ → Option ℕ
moment s = cond (digits 14 s && exists s) (Some (seconds_of s)) None

-- a start, YYYYMMDDhhmm, as 14 digits
abbrev pub whole_minute : List ℕ → List ℕ
whole_minute s = s ++ 0 ∷ 0 ∷ []

-- 'start minute 00 or 30'
abbrev pub half_hour : List ℕ → Bool
half_hour s = eqb (minute_in s) 0 || eqb (minute_in s) 30

-- 12 digits that are a date at minute 00 or 30: the slot that begins there; anything else: none
unfoldable pub start_slot : List ℕ → Option ℕ
start_slot s = cond (digits 12 s && exists (whole_minute s) && half_hour s) (Some (slot_of (seconds_of (whole_minute s)))) None
