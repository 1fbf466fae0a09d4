pub mod Packing
