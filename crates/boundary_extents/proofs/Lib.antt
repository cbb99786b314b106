pub mod ToldExtentLaws
