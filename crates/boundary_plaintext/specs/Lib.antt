pub mod BoundaryPlaintext
