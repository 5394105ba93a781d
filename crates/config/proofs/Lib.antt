-- Facts on configurations that no single function's proof owns.
pub mod Bounds
pub mod Accepted
