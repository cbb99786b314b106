pub mod BitStepLaws
pub mod CrcTableLaws
pub mod WordLaws
pub mod BoundLaws
