-- What is copied when one leaves, a turn of the loop that counts, and the laws of the totals.
pub mod ByBank
pub mod Closing
pub mod Counting
