pub mod Inside
pub mod Script
pub mod ScriptRefusal
pub mod ScriptText
pub mod Station
