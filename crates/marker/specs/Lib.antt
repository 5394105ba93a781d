-- What the program writes, as a function of what it read.
pub mod Mark
