-- What each rule reads of the timing, and which way it is monotone (Dependence); a sheet and a more relaxed one (Relaxed).
pub mod Dependence
pub mod Relaxed
