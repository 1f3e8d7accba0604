pub mod Inside
pub mod LineText
pub mod MessageText
pub mod PacketText
