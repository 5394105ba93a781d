-- The round trip of a pair, and the pins that no reader looks at.
pub mod Ignored
pub mod RoundTrip
