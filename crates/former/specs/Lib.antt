-- The rules of before, kept for the statement of what has become of verdicts by them.
pub mod Former
