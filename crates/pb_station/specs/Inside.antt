-- What the code's own steps do and keep. No promise cites it.
pub mod Answered
pub mod Commands
pub mod Device
pub mod Files
pub mod Slot
pub mod Steps
pub mod Table
pub mod Tables
