pub mod Unsound  -- of a struct that is no sound unit every call from C is refused, and hands it back
pub mod Lists  -- a list of calls from C is the unit's own
pub mod Exports  -- the exported contracts are the steps that the theorem runs
pub mod FromC  -- the theorem for C, from jag_install on
pub mod ApartFromC  -- the auditor's sentence for C
