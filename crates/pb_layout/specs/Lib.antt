pub mod Breaking
pub mod Kind
pub mod Layout
pub mod Lists
pub mod Reading
pub mod Typed
pub mod Pieces
pub mod Inside
