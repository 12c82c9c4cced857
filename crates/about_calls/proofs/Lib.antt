pub mod Options  -- values that may be missing, numbers that a test compared
pub mod Follows  -- the relation that every call keeps between unit and machine, and that it makes the unit sound
pub mod Asks  -- what the machine asks for stays sound: after a failure, a yearly file, an update
pub mod Ticking  -- a tick's seconds, the unit's and the machine's side by side
pub mod MachineLaws  -- what the machine answers at each refusal, and where it accepts
pub mod UnitLaws  -- what the unit answers, row by row, where it is sound with its store
pub mod Steps  -- each call but taking: the unit's reply is the machine's, and the unit goes on following
pub mod Taking  -- the same of a file taken, by itself or in a response
pub mod EveryList  -- the theorem over every list of calls, by induction
pub mod Ahead  -- floor is behind the clock's month by one at the most
pub mod Ticks  -- one tick over n seconds and n ticks of one second; the tick over none
pub mod Acceptance  -- every lawful file that fits is accepted
pub mod Full  -- cause 14 both ways
pub mod Refusals  -- a call is refused with the lowest cause that applies, and leaves unit and store as they were
pub mod OwnRequest  -- the request of a unit by its rows
pub mod Unsound  -- of a unit that is not sound every call is refused, and changes nothing
pub mod Installed  -- from installing on: what it gives, and every list of calls after it
pub mod Sentences  -- the latest rate, and what stays untouched
pub mod Responses  -- a response taken is its name and file taken; 17 exactly where the form is broken
pub mod Moves  -- which blocks a call gives and frees; the others stay; floor only rises
pub mod Apart  -- the auditor's sentence, whole
pub mod AnyCall  -- what `calls::step` returns is the step that the theorems run
