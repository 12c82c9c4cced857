-- A file that can be put: its records cover one run of slots before the end of 2099, each into the next month at most.
use Rattle.std.specs.Prelude.{ℕ, suc, ◌+◌, ◌≤◌, ◌<◌, ◌≡◌, true, List, [], ◌∷◌, length}
use Rattle.rules.specs.Digits.{all_at_most}
use Rattle.rules.specs.Calendar.{first_slot, month_of_slot, slot_count}
use Rattle.rules.specs.Body.{Record, highest_rate}
use Rattle.rules.specs.File.{File, records_in, start_of}
use Rattle.schedule.specs.Stored.{Stored, put_run}

-- 'last slot before T', a month or 7 days at the most, no rate above 100
pub record GoodRecord (r : Record) : Type 0 where
  pub begins : start_of r < slot_count
  pub ends : start_of r + length r.rates ≤ slot_count
  pub near : start_of r + length r.rates ≤ first_slot (suc (suc (month_of_slot (start_of r))))
  pub rates : all_at_most highest_rate r.rates ≡ true

-- the records follow each other from slot s on
abbrev pub RunFrom : ℕ → List Record → Type 0
RunFrom s [] = Unit {0}
RunFrom s (r ∷ rs) = (start_of r ≡ s) × GoodRecord r × RunFrom (s + length r.rates) rs

-- the first slot of the run, and how many it has
abbrev pub run_start : List Record → ℕ
run_start [] = 0
run_start (r ∷ rs) = start_of r

unfoldable pub run_length : List Record → ℕ
run_length [] = 0
run_length (r ∷ rs) = length r.rates + run_length rs

abbrev pub GoodFile : File → Type 0
GoodFile f = RunFrom (run_start (records_in f.body)) (records_in f.body)

-- the records put in order
unfoldable pub put_records : ℕ → List Record → Stored → Stored
put_records floor [] st = st
put_records floor (r ∷ rs) st = put_records floor rs (put_run floor (start_of r) r.rates st)
