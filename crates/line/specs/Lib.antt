-- What a line holds, and how it grows.
pub mod Lines
pub mod Text
