pub mod BoundaryExtents
