pub mod BoundaryAccess
