-- What the contracts of this crate say: the sheet, and the answer of its test.
pub mod Configuration
