pub mod Ranges  -- numbers from one up to another, and runs of slots that meet
pub mod Counts  -- the machine's count of the months that pass a test
pub mod Bytes  -- a store after a run of stores in one block, from that block and from another
pub mod Given  -- which blocks hold which months after one is given or some are released
pub mod View  -- what pool and store stand for: floor, held months, the rate of each slot
pub mod Shown  -- what all pools and stores of one view share; blocks released
pub mod Put  -- a piece put, seen in the view
pub mod Pieces  -- a run of rates as a piece of its first month and one of the next
pub mod Runs  -- a run put, seen in the view
pub mod Files  -- the machine's list of files: one file more, and slots with no rate
pub mod Records  -- a file's records put in order, seen in the view and in the list of files
pub mod Rooms  -- room for a file's records, by the view alone
pub mod Steps  -- pool and store go on agreeing with the machine: fresh, released, put
pub mod Answers  -- rate, free blocks, room and soundness where they agree
pub mod Blocks  -- held months and their blocks in 01's words
pub mod Months  -- records of whole months follow each other, one month a record
pub mod Taken  -- a file that a unit takes can be put
pub mod Untouched  -- a put changes no byte but in the blocks of the months that it covers
pub mod Laws  -- every law of specs/Laws: cite this one
