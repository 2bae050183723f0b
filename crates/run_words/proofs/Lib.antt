pub mod AllRead
pub mod Flags
pub mod Forms
pub mod Said
pub mod Walked
