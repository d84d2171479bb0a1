pub mod DirectionLaws
pub mod CellLaws
pub mod EstimateLaws
pub mod GridLaws
pub mod MoveLaws
pub mod ChangeLaws
pub mod RaiseLaws
pub mod TowardLaws
