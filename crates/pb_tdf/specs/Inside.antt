-- What the code's own steps do and keep. No promise cites it.
pub mod Items
pub mod Kept
pub mod Passing
pub mod Progress
