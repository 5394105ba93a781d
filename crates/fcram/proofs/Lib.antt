-- The bound that keeps an answer within 32 bits.
pub mod Bounded
