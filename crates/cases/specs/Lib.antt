-- The paper's eight cases and the figures of sheet E, as one table.
pub mod CheckerCases
pub mod Cases
