pub mod Insertions
