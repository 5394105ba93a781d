-- What wrong programs would give, and that no contract allows it: read Excluded last.
pub mod Calls
pub mod Cursors
pub mod Excluded
