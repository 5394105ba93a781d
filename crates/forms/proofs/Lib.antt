-- Demand 3 for calls of either form.
pub mod EitherForm
