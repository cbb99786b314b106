pub mod BoundaryAnswers
