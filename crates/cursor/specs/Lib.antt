-- What the calls on a cursor promise.
pub mod Cursor
