pub mod Sources
pub mod Nothing
pub mod Laying
pub mod Grounds
pub mod Premultiplied
pub mod Hiding
