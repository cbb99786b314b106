pub mod BoundaryKeys
