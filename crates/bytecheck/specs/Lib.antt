-- For private functions alone: how a check goes on through a trace, and what a quick look at a word goes by. The contract of
-- `check_bytes` cites `check_bytes_of` of `rules`.
pub mod Passed
pub mod Quick
pub mod Pairs
