pub mod Inside
pub mod Ring
