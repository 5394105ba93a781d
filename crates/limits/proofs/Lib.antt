-- The orders of two sheets (Ordered), sheets in the limits (InLimits), the check on both sheets (Both), and the theorem of specs/Within.
pub mod Ordered
pub mod InLimits
pub mod Both
pub mod Within
