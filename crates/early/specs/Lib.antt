-- What the answers of this crate stand for.
pub mod Answers
