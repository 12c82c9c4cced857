pub mod RecordLaws  -- the walk that puts records: one record on
pub mod ReadLaws  -- what a unit may take from a file: records in the body's bytes, the segment a number
pub mod TakeLaws  -- what is answered and left at each return, of a file and of a response
pub mod ReadyLaws  -- what is looked at first: 3, 4, 5, or the clock
