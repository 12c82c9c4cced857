-- Demand 3: for every list of calls the unit answers as the plain machine does, and pool and store say what the machine's files say.
use Rattle.std.specs.Prelude.{ℕ, ◌≡◌, Bool, true, false, cond, not, ◌&&◌, List, map, eqb, length, Ok}
use Rattle.rules.specs.Plant.{Settings}
use Rattle.rules.specs.Store.{store_length, member, sound_store}
use Rattle.rules.specs.Causes.{Reply, refused, number_of}
use Rattle.rules.specs.Machine.{Machine, Told, Call, tick, clock_lost, file_taken, response_taken, failure, due, ceiling_of, command, free_blocks, fresh_machine, is_held, replies as machine_replies, after as machine_after}
use Rattle.rules.specs.declared.Cause.{Cause}
use Rattle.plant.specs.Plant.{valid_plant, settings_of}
use Rattle.plant.specs.declared.Plant.{Plant}
use Rattle.pool.specs.Held.{held_of}
use Rattle.about_store.specs.Agrees.{BlocksHave}
use Rattle.unit.specs.Values.{is_sound, fresh_unit, installed_unit}
use Rattle.calls.specs.Step.{State, replies, after}

-- the fresh unit of a plant, with a store
abbrev pub fresh : Plant → List ℕ → State
fresh p store = record { unit = fresh_unit p; store = store }

-- what the machine is told of them
abbrev pub told : Plant → List ℕ → Told
told p store = record { plant = p.id; settings = settings_of p; store_length = length store }

-- the unit is sound, the store is sound if it has 01's length, the held months are the machine's, and the block of each has its rates, 255 where there is
-- none and past the month's end
pub record Holds (s : State) (M : Machine) : Type 0 where
  pub unit : is_sound s.unit ≡ true
  pub store : length s.store ≡ store_length → sound_store (held_of s.unit.pool) s.store ≡ true
  pub months : (m : ℕ) → member m (map (λ h. h.month) (held_of s.unit.pool)) ≡ is_held M m
  pub blocks : length s.store ≡ store_length → BlocksHave M (held_of s.unit.pool) s.store

-- for every list of calls with any values, from any fresh unit and one store of any length and bytes
abbrev pub EveryList : Type 0
EveryList =
    (p : Plant) → valid_plant p ≡ true → (store : List ℕ) (cs : List Call)
    → (replies cs (fresh p store) ≡ machine_replies (told p store) cs fresh_machine)
    × Holds (after cs (fresh p store)) (machine_after (told p store) cs fresh_machine)

-- ---- from install on

-- the unit that install gave, with a store; `installed_unit` is the definition in the contract of Unit::install
abbrev pub installed_state : List ℕ → List ℕ → Settings → List ℕ → State
installed_state id mac set store = record { unit = (installed_unit id mac set).unit; store = store }

-- 'It is told the plant ID, the settings, the store's length': the caller's own
abbrev pub told_by : List ℕ → Settings → List ℕ → Told
told_by id set store = record { plant = id; settings = set; store_length = length store }

-- the same for every install that is accepted
abbrev pub EveryListInstalled : Type 0
EveryListInstalled =
    (id mac : List ℕ) (set : Settings) → (installed_unit id mac set).answer ≡ Ok tt → (store : List ℕ) (cs : List Call)
    → (replies cs (installed_state id mac set store) ≡ machine_replies (told_by id set store) cs fresh_machine)
    × Holds (after cs (installed_state id mac set store)) (machine_after (told_by id set store) cs fresh_machine)

-- ---- where there is no sound unit

-- 'the store is lent to tick, file taken and ceiling'; a response is taken as a file is
abbrev pub lent : Call → Bool
lent (tick t) = true
lent clock_lost = false
lent (file_taken name body) = true
lent (response_taken boundary bytes) = true
lent (failure kind status) = false
lent due = false
lent (ceiling_of slot) = true
lent command = false
lent free_blocks = false

-- what a call answers to a unit that is not sound: 3 where it is lent a store of another length, else 4
abbrev pub unsound_reply : List ℕ → Call → Reply
unsound_reply store c = refused (number_of (cond (lent c && not (eqb (length store) store_length)) Cause.StoreLength Cause.Unsound))
