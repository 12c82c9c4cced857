pub mod CallLaws  -- soundness as it is tested, and what a sound unit's calls answer
pub mod LentLaws  -- what is looked at first where a store is lent: length, soundness
pub mod SoundParts  -- a sound unit, and one with its store, as facts one by one
pub mod ReleaseLaws  -- blocks given back: twice is once, and what is left is found and sound
pub mod Seconds  -- a tick's seconds at once and one by one; soundness is kept
pub mod TickLaws  -- what tick answers where it is accepted, and when it is
pub mod Ticks  -- one tick over n seconds ends where n ticks of one end
