pub mod Inside
pub mod Owed
pub mod Serving
pub mod Talks
