pub mod Model
pub mod Runs
pub mod Sectors
pub mod Sides
