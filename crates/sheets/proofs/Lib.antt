-- The theorem of specs/Sheets.
pub mod Sheets
