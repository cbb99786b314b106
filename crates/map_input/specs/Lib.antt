pub mod MapInput
