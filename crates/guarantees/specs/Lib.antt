pub mod Boundary
pub mod BoundaryRuns
pub mod Claims
pub mod FromHeaders
pub mod Interleaving
pub mod SameAt512
pub mod Steps
