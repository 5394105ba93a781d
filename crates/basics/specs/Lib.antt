-- What a call comes to, and the numbers of refusals.
pub mod Outcome
pub mod Numbers
pub mod Answers
