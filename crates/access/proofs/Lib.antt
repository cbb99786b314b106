pub mod MovingLaws
