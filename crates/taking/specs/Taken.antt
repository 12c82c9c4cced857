-- A file or a response taken: what is answered and left. A refusal leaves unit and store as they were.
use Rattle.std.specs.Prelude.{ℕ, true, List, [], ◌∷◌, ◌++◌, ltb, Option, None, Some}
use Rattle.rules.specs.File.{File, Outcome, refuse, file, take_file, records_in}
use Rattle.rules.specs.Response.{take_response}
use Rattle.rules.specs.Machine.{take_by}
use Rattle.rules.specs.Table.{Row, row, first_of}
use Rattle.rules.specs.declared.Cause.{Cause}
use Rattle.pool.specs.Blocks.{free_count}
use Rattle.schedule.specs.Stored.{missing}
use Rattle.about_store.specs.Run.{run_start, run_length, put_records}
use Rattle.polling.specs.Requests.{requests_of, requests_from}
use Rattle.unit.specs.Rows.{length_row, sound_row, clock_row}
use Rattle.unit.specs.Calls.{done_by, clock_time}
use Rattle.unit.specs.declared.Unit.{Unit}
use Rattle.unit.specs.Changed.{Done}

-- ---- what is taken, whether it came as a file or in a response

-- 14: 'more than 16 months would be held'
unfoldable pub full_row : File → Unit → Row
full_row f u =
    let rs = records_in f.body in
    row Cause.Full (ltb (free_count u.pool) (missing u.pool u.floor (run_start rs) (run_length rs)))

-- 17 or 7 to 13 by reading, then 14
abbrev pub outcome_row : Outcome → Unit → Row
outcome_row (refuse c) u = row c true
outcome_row (file f) u = full_row f u

unfoldable pub with_file : File → List ℕ → Unit → Unit
with_file f store u = record {
  plant = u.plant;
  pool = (put_records u.floor (records_in f.body) (record { pool = u.pool; store = store })).pool;
  requests = requests_from (take_by (clock_time u.clock) f.name.format f.name (records_in f.body) (requests_of u.requests));
  clock = u.clock;
  floor = u.floor;
  command = u.command;
}

abbrev pub taken : Outcome → List ℕ → Unit → Unit
taken (refuse c) store u = u
taken (file f) store u = with_file f store u

-- 3, 4 and 5, before anything that is taken is looked at
abbrev pub ready_rows : Unit → List ℕ → List Row
ready_rows u store = length_row store ∷ sound_row u store ∷ clock_row u ∷ []

abbrev pub outcome_rows : Unit → List ℕ → Outcome → List Row
outcome_rows u store o = ready_rows u store ++ (outcome_row o u ∷ [])

unfoldable pub outcome_taken : Unit → List ℕ → Outcome → Done
outcome_taken u store o = done_by (first_of (outcome_rows u store o)) (taken o store u) u

-- the store afterwards
abbrev pub store_with : Outcome → List ℕ → Unit → List ℕ
store_with (refuse c) store u = store
store_with (file f) store u = (put_records u.floor (records_in f.body) (record { pool = u.pool; store = store })).store

abbrev pub store_by : Option Cause → List ℕ → List ℕ → List ℕ
store_by None new old = new
store_by (Some c) new old = old

unfoldable pub store_taken : Unit → List ℕ → Outcome → List ℕ
store_taken u store o = store_by (first_of (outcome_rows u store o)) (store_with o store u) store

-- ---- a file

abbrev pub take_of : Unit → List ℕ → List ℕ → List ℕ → Done
take_of u store name body = outcome_taken u store (take_file u.plant.id name body)

abbrev pub store_after_take : Unit → List ℕ → List ℕ → List ℕ → List ℕ
store_after_take u store name body = store_taken u store (take_file u.plant.id name body)

-- ---- a response

abbrev pub response_of : Unit → List ℕ → List ℕ → List ℕ → Done
response_of u store boundary s = outcome_taken u store (take_response u.plant.id boundary s)

abbrev pub store_after_response : Unit → List ℕ → List ℕ → List ℕ → List ℕ
store_after_response u store boundary s = store_taken u store (take_response u.plant.id boundary s)
