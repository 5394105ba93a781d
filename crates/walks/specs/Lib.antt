-- What an advance does, and a whole walk beside the published verdict.
pub mod Walk
