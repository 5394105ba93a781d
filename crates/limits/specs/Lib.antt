-- Two sheets, and what the call answers of a trace (Limits, Answers); what that is worth (Within).
pub mod Limits
pub mod Answers
pub mod Within
