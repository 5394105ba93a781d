-- Lists of calls, by value and on a borrowed controller.
pub mod EitherForm
