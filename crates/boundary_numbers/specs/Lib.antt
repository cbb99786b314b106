pub mod BoundaryNumbers
