-- The auditor's sentence for firmware in C: of the unit that the struct stands for which C holds, after every list of calls from jag_install on.
use Rattle.std.specs.Prelude.{ℕ, ◌≡◌, List}
use Rattle.rules.specs.Plant.{Settings}
use Rattle.rules.specs.Machine.{Machine, Call, fresh_machine, step as machine_step, after as machine_after}
use Rattle.calls.specs.Step.{State}
use Rattle.c_structs.specs.Held.{opened}
use Rattle.about_calls.specs.Theorem.{told_by}
use Rattle.about_calls.specs.Apart.{Matched, Stays, Moved}
use Rattle.about_calls_c.specs.Lists.{HeldState, held_install, held_step, held_after}
use Rattle.about_calls_c.specs.FromC.{newly_held}

-- the unit that a struct stands for, with the store
abbrev pub opened_state : HeldState → State
opened_state h = record { unit = opened h.unit; store = h.store }

-- what C holds after a list of calls on the struct that jag_install handed out, and the machine after the same list
abbrev pub held_from : List ℕ → List ℕ → Settings → List ℕ → List Call → HeldState
held_from id mac set store cs = held_after cs (newly_held id mac set store)

abbrev pub machine_from : List ℕ → Settings → List ℕ → List Call → Machine
machine_from id set store cs = machine_after (told_by id set store) cs fresh_machine

-- where jag_install answers 0: after every list of calls cs; from there over every call c; and over every further list ds
abbrev pub MatchedFromC : Type 0
MatchedFromC =
    (id mac : List ℕ) (set : Settings) → (held_install id mac set).cause ≡ 0 → (store : List ℕ) (cs : List Call)
    → Matched (opened_state (held_from id mac set store cs)) (machine_from id set store cs)
    × ((c : Call)
    → Moved (opened_state (held_from id mac set store cs)) (opened_state (held_step c (held_from id mac set store cs)).1) (machine_from id set store cs)
    (machine_step (told_by id set store) c (machine_from id set store cs)).1)
    × ((ds : List Call)
    → Stays (opened_state (held_from id mac set store cs)) (opened_state (held_after ds (held_from id mac set store cs))) (machine_from id set store cs)
    (machine_after (told_by id set store) ds (machine_from id set store cs)))
