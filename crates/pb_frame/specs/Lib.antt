pub mod Faults
pub mod Framing
pub mod Hearing
pub mod Inside
pub mod Signature
pub mod Turn
