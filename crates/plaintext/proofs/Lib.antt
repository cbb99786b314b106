pub mod PlaintextLaws
