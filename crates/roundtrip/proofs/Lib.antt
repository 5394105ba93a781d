-- Facts on pins and pairs. Read RoundTrip last: it has the theorem.
pub mod Levels
pub mod Lanes
pub mod Written
pub mod WrittenBack
pub mod SoundPair
pub mod ReadBack
pub mod IgnoredPins
pub mod RoundTrip
