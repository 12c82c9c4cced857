pub mod Fields  -- what the stages compute of a record's parts is what they say of its fields
pub mod Starts  -- the dates of a record: start, month, next access, and the months that are left
pub mod Kept  -- what is kept of an accepted body is its `summary_of`
pub mod Outcomes  -- which answer each stage gives; the name's creation time does not matter
pub mod Examples  -- a 203 of three rates, and one with a rate of 101, computed
