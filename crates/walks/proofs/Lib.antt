-- A whole walk and the published verdict.
pub mod Walk
