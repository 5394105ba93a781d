-- Refused sheets: what they mean for every call, and which sheets 33 is for.
pub mod Sheets
