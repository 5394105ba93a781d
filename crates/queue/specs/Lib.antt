-- What the code's contracts say of the requests that wait.
pub mod Place
pub mod Queue
pub mod Totals
