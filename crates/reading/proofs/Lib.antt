-- The clocks of a pair's data.
pub mod Data
