pub mod Boxes
pub mod Clips
pub mod Extents
pub mod Given
pub mod Inside
pub mod Kept
mod KeyParts
mod KnownExtents
pub mod Lists
pub mod Nodes
mod Numbers
pub mod Planes
mod RightKeys
pub mod Turns
pub mod Uses
