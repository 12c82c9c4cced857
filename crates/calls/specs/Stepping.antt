-- A call given to the code as a value: what `calls::step` returns and leaves, and that it is the step which the theorem about every list of calls runs.
use Rattle.std.specs.Prelude.{ℕ, ◌≡◌, List, Option}
use Rattle.rules.specs.Causes.{Reply as MachineReply, of_answer, of_due, of_ceiling, of_command, of_free_blocks}
use Rattle.rules.specs.Machine.{Call as MachineCall, tick, clock_lost, file_taken, response_taken, failure, due, ceiling_of, command, free_blocks}
use Rattle.unit.specs.Calls.{tick_of, lost_of, failure_of}
use Rattle.taking.specs.Taken.{take_of, store_after_take, response_of, store_after_response}
use Rattle.unit.specs.Asked.{due_asked, ceiling_asked, command_asked, free_asked}
use Rattle.calls.specs.Step.{Step, step}
use Rattle.unit.specs.declared.Unit.{Unit}
use Rattle.unit.specs.declared.Done.{Done as UnitDone}
use Rattle.unit.specs.Changed.{Done}
use Rattle.rules.specs.declared.Ceiling.{Ceiling}
use Rattle.rules.specs.declared.Due.{Due}
use Rattle.calls.specs.declared.Call.{Call}
use Rattle.calls.specs.declared.Reply.{Reply}
use Rattle.calls.specs.declared.Stepped.{Stepped}

-- ---- what the code returns and leaves

abbrev pub answered : Done → Stepped
answered d = record { unit = d.unit; reply = Reply.Done d.answer }

abbrev pub due_replied : UnitDone (Option Due) → Stepped
due_replied a = record { unit = a.unit; reply = Reply.Due a.answer }

abbrev pub ceiling_replied : UnitDone (Option Ceiling) → Stepped
ceiling_replied a = record { unit = a.unit; reply = Reply.Ceiling a.answer }

abbrev pub command_replied : UnitDone ℕ → Stepped
command_replied a = record { unit = a.unit; reply = Reply.Command a.answer }

abbrev pub free_replied : UnitDone ℕ → Stepped
free_replied a = record { unit = a.unit; reply = Reply.Blocks a.answer }

-- each call is answered as its own method answers; label and bytes are a file's name and body, or a response's boundary and bytes
abbrev pub stepped_of : Unit → Call → List ℕ → List ℕ → List ℕ → Stepped
stepped_of u (Call.Tick t) label bytes store = answered (tick_of u store t)
stepped_of u Call.ClockLost label bytes store = answered (lost_of u)
stepped_of u Call.File label bytes store = answered (take_of u store label bytes)
stepped_of u Call.Response label bytes store = answered (response_of u store label bytes)
stepped_of u (Call.Failure kind status) label bytes store = answered (failure_of u kind status)
stepped_of u Call.Due label bytes store = due_replied (due_asked u)
stepped_of u (Call.Ceiling slot) label bytes store = ceiling_replied (ceiling_asked u store slot)
stepped_of u Call.Command label bytes store = command_replied (command_asked u)
stepped_of u Call.FreeBlocks label bytes store = free_replied (free_asked u)

-- 'File taken alone writes to it', and 'Taking a response is then taking that name and file'
abbrev pub store_of : Unit → Call → List ℕ → List ℕ → List ℕ → List ℕ
store_of u (Call.Tick t) label bytes store = store
store_of u Call.ClockLost label bytes store = store
store_of u Call.File label bytes store = store_after_take u store label bytes
store_of u Call.Response label bytes store = store_after_response u store label bytes
store_of u (Call.Failure kind status) label bytes store = store
store_of u Call.Due label bytes store = store
store_of u (Call.Ceiling slot) label bytes store = store
store_of u Call.Command label bytes store = store
store_of u Call.FreeBlocks label bytes store = store

-- ---- in the machine's words

-- the machine's call: a file is its name and body, a response its boundary and bytes
abbrev pub call_of : Call → List ℕ → List ℕ → MachineCall
call_of (Call.Tick t) label bytes = tick t
call_of Call.ClockLost label bytes = clock_lost
call_of Call.File label bytes = file_taken label bytes
call_of Call.Response label bytes = response_taken label bytes
call_of (Call.Failure kind status) label bytes = failure kind status
call_of Call.Due label bytes = due
call_of (Call.Ceiling slot) label bytes = ceiling_of slot
call_of Call.Command label bytes = command
call_of Call.FreeBlocks label bytes = free_blocks

-- the machine's reply
abbrev pub reply_of : Reply → MachineReply
reply_of (Reply.Done a) = of_answer a
reply_of (Reply.Due a) = of_due a
reply_of (Reply.Ceiling a) = of_ceiling a
reply_of (Reply.Command a) = of_command a
reply_of (Reply.Blocks a) = of_free_blocks a

-- the reply, unit and store after the call
abbrev pub step_of : Unit → Call → List ℕ → List ℕ → List ℕ → Step
step_of u call label bytes store =
    (reply_of (stepped_of u call label bytes store).reply, record { unit = (stepped_of u call label bytes store).unit; store = store_of u call label bytes store })

-- for every unit, call and store it is `step`, which the theorem runs
abbrev pub StepsAgree : Type 0
StepsAgree =
    (u : Unit) (call : Call) (label bytes store : List ℕ)
    → step_of u call label bytes store ≡ step (call_of call label bytes) (record { unit = u; store = store })
