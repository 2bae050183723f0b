pub mod Ended
mod Seated
mod Working
