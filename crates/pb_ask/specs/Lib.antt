pub mod Asking
pub mod Events
pub mod Inside
pub mod Judging
pub mod Listening
pub mod Stream
pub mod Ticking
pub mod Wanted
