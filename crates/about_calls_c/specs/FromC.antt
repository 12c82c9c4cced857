-- Demand 3 for firmware in C: the same theorem about the struct that C holds, and the calls that C makes.
use Rattle.std.specs.Prelude.{◌≡◌, true, false, List, map, ℕ}
use Rattle.rules.specs.Machine.{Call, fresh_machine, replies as machine_replies, after as machine_after}
use Rattle.rules.specs.Plant.{Settings}
use Rattle.rules.specs.Writer.{refuse}
use Rattle.rules.specs.declared.Cause.{Cause}
use Rattle.plant.specs.Plant.{valid_plant, plant_of}
use Rattle.plant.specs.declared.Plant.{Plant}
use Rattle.calls.specs.Step.{after}
use Rattle.unit.specs.Values.{is_sound}
use Rattle.unit.specs.Request.{request_of}
use Rattle.c_structs.specs.Held.{opened}
use Rattle.c_structs.specs.declared.HeldUnit.{HeldUnit}
use Rattle.about_calls_c.specs.Lists.{HeldState, shut_state, held_install, held_replies, held_after}
use Rattle.about_calls.specs.Theorem.{fresh, told, Holds, told_by, unsound_reply}

-- for every list of calls from C, from the struct of any fresh unit and one store of any length and bytes: the answers are the machine's, and the
-- struct is that of a unit which, with the store, is as `Holds` says
abbrev pub EveryListFromC : Type 0
EveryListFromC =
    (p : Plant) → valid_plant p ≡ true → (store : List ℕ) (cs : List Call)
    → (held_replies cs (shut_state (fresh p store)) ≡ machine_replies (told p store) cs fresh_machine)
    × (held_after cs (shut_state (fresh p store)) ≡ shut_state (after cs (fresh p store)))
    × Holds (after cs (fresh p store)) (machine_after (told p store) cs fresh_machine)

-- ---- from jag_install on

-- the struct that jag_install handed out, with a store
abbrev pub newly_held : List ℕ → List ℕ → Settings → List ℕ → HeldState
newly_held id mac set store = record { unit = (held_install id mac set).unit; store = store }

-- where jag_install answers 0, every list of calls on the struct that it handed out is answered as the machine that was told the caller's values
abbrev pub InstalledFromC : Type 0
InstalledFromC =
    (id mac : List ℕ) (set : Settings) → (held_install id mac set).cause ≡ 0 → (store : List ℕ) (cs : List Call)
    → (held_replies cs (newly_held id mac set store) ≡ machine_replies (told_by id set store) cs fresh_machine)
    × (held_after cs (newly_held id mac set store) ≡ shut_state (after cs (fresh (plant_of id mac set) store)))
    × Holds (after cs (fresh (plant_of id mac set) store)) (machine_after (told_by id set store) cs fresh_machine)

-- every list of calls on a state is refused as calls on a unit that is not sound are, and leaves struct and store as they were; and so is every request
abbrev pub AllRefused : HeldState → Type 0
AllRefused s =
    ((cs : List Call) → (held_replies cs s ≡ map (unsound_reply s.store) cs) × (held_after cs s ≡ s))
    × ((segment : List ℕ) (room : ℕ) → request_of (opened s.unit) segment room ≡ refuse Cause.Unsound)

-- of every struct that stands for no sound unit
abbrev pub UnsoundFromC : Type 0
UnsoundFromC = (u : HeldUnit) → is_sound (opened u) ≡ false → (store : List ℕ) → AllRefused (record { unit = u; store = store })

-- and so of the struct that a refused jag_install handed out
abbrev pub RefusedFromC : Type 0
RefusedFromC =
    (id mac : List ℕ) (set : Settings) → ((held_install id mac set).cause ≡ 0 → ⊥) → (store : List ℕ) → AllRefused (newly_held id mac set store)
