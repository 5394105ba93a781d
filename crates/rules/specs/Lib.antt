-- The published rules (History, Rules, Verdict); and apart from them the same as tests of timestamps (Breaches), which is what the
-- contracts of single words say, with the theorem that these are the rules (Kept).
pub mod History
pub mod Rules
pub mod Verdict
pub mod Breaches
pub mod Kept
pub mod Turns
