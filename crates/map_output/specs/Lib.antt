pub mod Decimal
pub mod MapOutput
