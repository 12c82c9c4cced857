-- What follows from the theorem, in the operator's words.
use Rattle.std.specs.Prelude.{ℕ, ◌<◌, ◌≡◌, Bool, true, false, List, length, Ok}
use Rattle.rules.specs.Calendar.{slot_count}
use Rattle.rules.specs.File.{File, file, take_file, records_in}
use Rattle.rules.specs.Store.{store_length, block_count}
use Rattle.rules.specs.Machine.{Call, tick, clock_lost, file_taken, response_taken, failure, due, ceiling_of, command, free_blocks, fresh_machine, rate_of, any_record, after as machine_after}
use Rattle.plant.specs.Plant.{valid_plant}
use Rattle.plant.specs.declared.Plant.{Plant}
use Rattle.schedule.specs.Stored.{stored_rate}
use Rattle.about_store.specs.Untouched.{Untouched}
use Rattle.taking.specs.Taken.{take_of, store_after_take}
use Rattle.calls.specs.Step.{State, step, after}
use Rattle.unit.specs.declared.Unit.{Unit}
use Rattle.about_calls.specs.Theorem.{fresh, told}

-- 'a slot from the floor month on has the rate of the latest accepted file that covers it, and no rate where none does': the machine's rule, read from the store
abbrev pub LatestRate : Type 0
LatestRate =
    (p : Plant) → valid_plant p ≡ true → (store : List ℕ) → length store ≡ store_length → (cs : List Call) (s : ℕ) → s < slot_count
    → stored_rate (after cs (fresh p store)).unit.pool (after cs (fresh p store)).store s ≡ rate_of (machine_after (told p store) cs fresh_machine) s

-- 'File taken alone writes to it, only in blocks of months that its file covers': a file that is accepted changes no byte outside the blocks of months from
-- floor on that it covers
abbrev pub TakeUntouched : Type 0
TakeUntouched =
    (u : Unit) (store name body : List ℕ) (f : File)
    → length u.pool.months ≡ block_count
    → take_file u.plant.id name body ≡ file f
    → (take_of u store name body).answer ≡ Ok tt
    → Untouched u.floor (λ m. any_record m (records_in f.body))
    (record { pool = u.pool; store = store })
    (record { pool = (take_of u store name body).unit.pool; store = store_after_take u store name body })

-- a file, by itself or in a response
abbrev pub is_file : Call → Bool
is_file (tick t) = false
is_file clock_lost = false
is_file (file_taken name body) = true
is_file (response_taken boundary bytes) = true
is_file (failure kind status) = false
is_file due = false
is_file (ceiling_of slot) = false
is_file command = false
is_file free_blocks = false

abbrev pub is_question : Call → Bool
is_question (tick t) = false
is_question clock_lost = false
is_question (file_taken name body) = false
is_question (response_taken boundary bytes) = false
is_question (failure kind status) = false
is_question due = true
is_question (ceiling_of slot) = true
is_question command = true
is_question free_blocks = true

-- no other call changes a byte of the store, and 'the questions change nothing'
abbrev pub OthersUntouched : Type 0
OthersUntouched = (c : Call) (s : State) → (is_file c ≡ false → (step c s).1.store ≡ s.store) × (is_question c ≡ true → (step c s).1 ≡ s)
