pub mod ToldViewLaws
