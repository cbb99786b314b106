pub mod ExpansionLaws
