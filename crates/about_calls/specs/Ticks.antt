-- Demand 3, its last sentence: on a set clock an accepted tick over n seconds and n ticks of one second in its place end in the same unit, and whatever follows gets the same answers.
use Rattle.std.specs.Prelude.{ℕ, ◌+◌, ◌≤◌, ◌≡◌, true, List, Some, Ok}
use Rattle.rules.specs.Machine.{Call}
use Rattle.plant.specs.Plant.{valid_plant}
use Rattle.plant.specs.declared.Plant.{Plant}
use Rattle.unit.specs.Calls.{tick_of}
use Rattle.calls.specs.Step.{State, replies, after}
use Rattle.unit.specs.Ticks.{tick_each}
use Rattle.unit.specs.declared.Unit.{Unit}
use Rattle.about_calls.specs.Theorem.{fresh}

-- a unit with a store
abbrev pub with : Unit → List ℕ → State
with u store = record { unit = u; store = store }

-- every list of calls after the one tick and after the n ticks gets the same answers; neither writes the store
abbrev pub SameAfterTicks : Type 0
SameAfterTicks =
    (u : Unit) (store : List ℕ) (c n : ℕ) → u.clock ≡ Some c → 1 ≤ n → (tick_of u store (c + n)).answer ≡ Ok tt
    → ((tick_of u store (c + n)).unit ≡ tick_each store n c u)
    × ((cs : List Call) → replies cs (with (tick_of u store (c + n)).unit store) ≡ replies cs (with (tick_each store n c u) store))

-- n = 0: of a unit that a list of calls led to from a fresh one, a tick to the second where the clock stands leaves it as it is
abbrev pub NoSecond : Type 0
NoSecond =
    (p : Plant) → valid_plant p ≡ true → (store : List ℕ) (cs : List Call) (c : ℕ)
    → (after cs (fresh p store)).unit.clock ≡ Some c
    → tick_of (after cs (fresh p store)).unit (after cs (fresh p store)).store c
    ≡ record { unit = (after cs (fresh p store)).unit; answer = Ok tt }
