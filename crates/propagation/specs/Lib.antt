pub mod Propagated
