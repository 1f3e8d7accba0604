pub mod Escape
pub mod Fp2
pub mod Hex
pub mod Inside
pub mod TimeText
pub mod Values
pub mod ValueText
