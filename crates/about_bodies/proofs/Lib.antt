pub mod Records  -- the records that `locate` and `field_part` find are those of reading
pub mod Written  -- a body that was written, read and taken apart, has the fields it was given
pub mod Again  -- a body read, taken apart and written again is itself
pub mod Unread  -- of a 201 or 202 the writer looks at neither flag nor next access
