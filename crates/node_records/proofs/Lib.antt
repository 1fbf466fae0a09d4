pub mod Body
pub mod ByKind
