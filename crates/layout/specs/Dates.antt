-- The rules of a record's dates (01, Names and bodies), of any bytes in the places of its start and next access.
use Rattle.std.specs.Prelude.{ℕ, Bool, ◌&&◌, List, eqb}
use Rattle.rules.specs.Digits.{digits}
use Rattle.rules.specs.Calendar.{exists, month_at, slots_of_month, start_slot, whole_minute}
use Rattle.rules.specs.File.{month_begins, in_time}

-- 'the start is day 01, 00:00, and n is 48 × days of the month': whether that month is month m
unfoldable pub month_holds : ℕ → List ℕ → ℕ → Bool
month_holds m start n =
    digits 12 start
    && exists (whole_minute start)
    && eqb (month_at start) m
    && month_begins start
    && eqb n (slots_of_month m)

-- '203: start minute 00 or 30, last slot before T', and a next access that exists
unfoldable pub update_holds : List ℕ → ℕ → List ℕ → Bool
update_holds start n next = in_time n (start_slot start) && (digits 14 next && exists next)
