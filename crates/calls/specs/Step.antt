-- One call of the unit, given as a value: what the theorem about every list of calls runs. Case by case it is the call's own definition.
use Rattle.std.specs.Prelude.{List, [], ◌∷◌, ℕ}
use Rattle.rules.specs.Causes.{Reply, of_answer, of_due, of_ceiling, of_command, of_free_blocks}
use Rattle.rules.specs.Machine.{Call, tick, clock_lost, file_taken, response_taken, failure, due, ceiling_of, command, free_blocks}
use Rattle.unit.specs.Calls.{tick_of, lost_of, failure_of, due_of, ceiling_of as ceiling_at, command_of, free_of}
use Rattle.taking.specs.Taken.{take_of, store_after_take, response_of, store_after_response}
use Rattle.unit.specs.declared.Unit.{Unit}
use Rattle.unit.specs.Changed.{Done}

-- a unit and the store that is lent to it
pub record State : Type 0 where
  pub unit : Unit
  pub store : List ℕ

abbrev pub Step : Type 0
Step = Reply × State

abbrev pub step_done : Done → List ℕ → Step
step_done d store = (of_answer d.answer, record { unit = d.unit; store = store })

unfoldable pub step : Call → State → Step
step (tick t) s = step_done (tick_of s.unit s.store t) s.store
step clock_lost s = step_done (lost_of s.unit) s.store
step (file_taken name body) s = step_done (take_of s.unit s.store name body) (store_after_take s.unit s.store name body)
step (response_taken boundary bytes) s =
    step_done (response_of s.unit s.store boundary bytes) (store_after_response s.unit s.store boundary bytes)
step (failure kind status) s = step_done (failure_of s.unit kind status) s.store
step due s = (of_due (due_of s.unit), s)
step (ceiling_of slot) s = (of_ceiling (ceiling_at s.unit s.store slot), s)
step command s = (of_command (command_of s.unit), s)
step free_blocks s = (of_free_blocks (free_of s.unit), s)

-- the replies to a list of calls, and the state after it
unfoldable pub replies : List Call → State → List Reply
replies [] s = []
replies (c ∷ cs) s = (step c s).0 ∷ replies cs (step c s).1

unfoldable pub after : List Call → State → State
after [] s = s
after (c ∷ cs) s = after cs (step c s).1
