pub mod Plans  -- the dates as the code tests them, what a plan says of the fields, its output
