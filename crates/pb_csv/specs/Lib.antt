pub mod CsvText
pub mod Export
pub mod Inside
