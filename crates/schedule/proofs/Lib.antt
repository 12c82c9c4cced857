pub mod Parts  -- an element of a list, a part replaced
pub mod RateLaws  -- a byte as a rate, a rate as a byte, the place of a slot
pub mod PutLaws  -- each step of `put_run`, by the tests that the code makes
pub mod StoreLaws  -- a sound store: a scan of bytes, a block, the blocks in order
pub mod MissingLaws  -- the blocks that a run still needs, counted over its months
