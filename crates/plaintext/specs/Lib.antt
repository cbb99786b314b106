pub mod Plaintext
