pub mod DecimalLaws
pub mod PutLaws
