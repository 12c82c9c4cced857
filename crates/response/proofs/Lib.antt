pub mod Stripping  -- what follows the bytes that others begin with
pub mod Scans  -- loops that look for a line's end and for a name
pub mod Ends  -- the boundary, and what closes the file
pub mod Walk  -- the walk over the header lines
pub mod Sizes  -- the length that a Content-Length line gives
pub mod Whole  -- what each answer of the code's parts makes of the bytes
