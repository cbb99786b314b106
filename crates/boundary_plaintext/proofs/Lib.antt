pub mod ToldKeyedLaws
