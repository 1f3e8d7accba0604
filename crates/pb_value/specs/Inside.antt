-- What the code's own steps make and keep. No promise cites it.
pub mod Characters
pub mod Runs
pub mod Values
