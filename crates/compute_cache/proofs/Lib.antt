pub mod Callers
pub mod Crossing
pub mod Holdings
pub mod Opening
pub mod Passing
pub mod Stated
pub mod Turning
pub mod TurnsOf
