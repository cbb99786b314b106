pub mod NumberLaws
pub mod PieceLaws
pub mod RunLaws
pub mod UnitLaws
