pub mod Handing  -- what specs/Handing says of the struct that C holds
