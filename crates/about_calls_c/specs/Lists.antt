-- A list of calls made from C: each call by the definition in its function's contract, each answer read as 01's. It is the unit's own list:
-- the same answers, and the struct of the unit that the list leaves. So the theorem about every list of calls holds of what C holds.
use Rattle.std.specs.Prelude.{ℕ, ◌≡◌, cond, List, [], ◌∷◌, eqb}
use Rattle.rules.specs.Causes.{Reply, accepted, refused, ceiling, update, fixed, nothing, parts, blocks}
use Rattle.rules.specs.Plant.{Settings}
use Rattle.rules.specs.Machine.{Call, tick, clock_lost, file_taken, response_taken, failure, due, ceiling_of, command, free_blocks}
use Rattle.unit.specs.Calls.{tick_of, lost_of, failure_of, due_of, ceiling_of as ceiling_at, command_of, free_of}
use Rattle.taking.specs.Taken.{take_of, store_after_take, response_of, store_after_response}
use Rattle.calls.specs.Step.{State, replies, after}
use Rattle.unit.specs.Values.{installed_unit}
use Rattle.c_structs.specs.Held.{opened, shut_of, handed, newly}
use Rattle.c_answers.specs.Answers.{due_numbers, ceiling_numbers, command_number, blocks_number}
use Rattle.c_structs.specs.declared.HeldUnit.{HeldUnit}
use Rattle.c_structs.specs.declared.Handed.{Handed}
use Rattle.c_answers.specs.declared.Number.{Number}
use Rattle.c_answers.specs.declared.DueAnswer.{DueAnswer}
use Rattle.c_answers.specs.declared.CeilingAnswer.{CeilingAnswer}

-- ---- C's numbers as 01's answers: a cause that is not 0 is a refusal

abbrev pub as_refused : ℕ → Reply → Reply
as_refused n r = cond (eqb n 0) r (refused n)

-- kind 1: update, 2: fixed, else nothing
abbrev pub due_means : DueAnswer → Reply
due_means a = as_refused a.cause (cond (eqb a.kind 1) update (cond (eqb a.kind 2) (fixed a.flag) nothing))

abbrev pub ceiling_means : CeilingAnswer → Reply
ceiling_means a = as_refused a.cause (ceiling (eqb a.has_rate 1) a.rate a.percent)

abbrev pub command_means : Number → Reply
command_means a = as_refused a.cause (parts a.value)

abbrev pub blocks_means : Number → Reply
blocks_means a = as_refused a.cause (blocks a.value)

-- ---- a call, and a list of them

-- the struct that C holds, and its store
pub record HeldState : Type 0 where
  pub unit : HeldUnit
  pub store : List ℕ

abbrev pub HeldStep : Type 0
HeldStep = Reply × HeldState

abbrev pub handed_step : Handed → List ℕ → HeldStep
handed_step h store = (as_refused h.cause accepted, record { unit = h.unit; store = store })

unfoldable pub held_step : Call → HeldState → HeldStep
held_step (tick t) s = handed_step (handed s.unit (tick_of (opened s.unit) s.store t)) s.store
held_step clock_lost s = handed_step (handed s.unit (lost_of (opened s.unit))) s.store
held_step (file_taken name body) s =
    handed_step (handed s.unit (take_of (opened s.unit) s.store name body)) (store_after_take (opened s.unit) s.store name body)
held_step (response_taken boundary bytes) s =
    handed_step (handed s.unit (response_of (opened s.unit) s.store boundary bytes)) (store_after_response (opened s.unit) s.store boundary bytes)
held_step (failure kind status) s = handed_step (handed s.unit (failure_of (opened s.unit) kind status)) s.store
held_step due s = (due_means (due_numbers (due_of (opened s.unit))), s)
held_step (ceiling_of slot) s = (ceiling_means (ceiling_numbers (ceiling_at (opened s.unit) s.store slot)), s)
held_step command s = (command_means (command_number (command_of (opened s.unit))), s)
held_step free_blocks s = (blocks_means (blocks_number (free_of (opened s.unit))), s)

unfoldable pub held_replies : List Call → HeldState → List Reply
held_replies [] s = []
held_replies (c ∷ cs) s = (held_step c s).0 ∷ held_replies cs (held_step c s).1

unfoldable pub held_after : List Call → HeldState → HeldState
held_after [] s = s
held_after (c ∷ cs) s = held_after cs (held_step c s).1

-- what installing hands out
abbrev pub held_install : List ℕ → List ℕ → Settings → Handed
held_install id mac set = newly (installed_unit id mac set)

-- the struct of a unit, with its store
abbrev pub shut_state : State → HeldState
shut_state s = record { unit = shut_of s.unit; store = s.store }

abbrev pub SameFromC : Type 0
SameFromC =
    (cs : List Call) (s : State)
    → (held_replies cs (shut_state s) ≡ replies cs s) × (held_after cs (shut_state s) ≡ shut_state (after cs s))
