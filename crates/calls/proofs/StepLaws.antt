-- The step is the one that the theorem about every list of calls runs.
use mathlib.Core.Path.{refl}
use Rattle.calls.specs.Step.{step}
use Rattle.calls.specs.Stepping.{StepsAgree}
use Rattle.calls.specs.declared.Call.{Call}

pub steps_agree : StepsAgree
unfolding step
steps_agree u (Call.Tick t) label bytes store = refl
steps_agree u Call.ClockLost label bytes store = refl
steps_agree u Call.File label bytes store = refl
steps_agree u Call.Response label bytes store = refl
steps_agree u (Call.Failure kind status) label bytes store = refl
steps_agree u Call.Due label bytes store = refl
steps_agree u (Call.Ceiling slot) label bytes store = refl
steps_agree u Call.Command label bytes store = refl
steps_agree u Call.FreeBlocks label bytes store = refl
