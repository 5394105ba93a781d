-- What the call comes to (Duration), and the sentence that fixes it (Exact).
pub mod Duration
pub mod Exact
