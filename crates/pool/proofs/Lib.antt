pub mod BelowLaws  -- tests on the numbers below k: all, first, count; a number's binary digits
pub mod Laws  -- what soundness means; held months after taking, releasing, finding
pub mod SoundLaws  -- the pool's test of soundness is 01's sentence
pub mod FindLaws  -- the first block that passes, as an iterator over the blocks finds it
