-- The tests of timestamps are the published rules. Read Words and Kept last: they have a word, and a whole trace. Beside that, REF words at
-- short gaps keep rule 3 (Gaps).
pub mod Closings
pub mod Newest
pub mod Summary
pub mod Tests
pub mod Gaps
pub mod Words
pub mod Kept
pub mod Turns
