-- What the calls on a borrowed controller promise.
pub mod Promised
