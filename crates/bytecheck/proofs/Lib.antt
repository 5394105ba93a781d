-- What the quick look needs of the rules.
pub mod Passing
pub mod Lanes
pub mod Access
pub mod Turns
