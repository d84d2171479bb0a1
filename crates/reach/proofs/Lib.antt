pub mod BitLaws
pub mod SpotLaws
pub mod FillLaws
pub mod OutLaws
pub mod ReportLaws
pub mod Theorems
pub mod CaseLaws
