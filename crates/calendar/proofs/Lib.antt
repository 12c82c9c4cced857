pub mod Tests  -- a test computed at every number below a bound
pub mod Laws  -- how months follow each other, and the month of a day and of a slot
pub mod Search  -- the table of four years, and the guess that a day divided by 31 gives
pub mod Scan  -- digits read by an index: a pair, four
pub mod DateLaws  -- which tests decide a date in digits; every date is before 2100
pub mod Begins  -- a start that begins a month: its date exists where its month does
