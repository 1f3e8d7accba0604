mod PlainLemmas
pub mod ColumnsLemmas
pub mod ExportLemmas
pub mod LineLemmas
pub mod RangeLemmas
