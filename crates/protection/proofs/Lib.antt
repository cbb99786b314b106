pub mod ProtectionLaws
