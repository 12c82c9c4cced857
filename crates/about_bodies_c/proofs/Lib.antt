pub mod Again  -- a body that C reads, takes apart and writes again is itself
pub mod Exports  -- the exported contracts about files say what the theorems speak of
