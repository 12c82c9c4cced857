pub mod Walk  -- a walk over records: their form, one record on; with the fields it is `parse_records`
pub mod Turns  -- a turn of layout's walk, and what it has left
pub mod Count  -- the record count at the front of a body
pub mod Standing  -- what a body of right form has: where its records stand, and how many rates
