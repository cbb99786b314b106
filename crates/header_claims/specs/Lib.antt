pub mod Header
pub mod Judging
pub mod MapProgram
pub mod Numbers
pub mod Opening
pub mod SectorMap
pub mod Writing
