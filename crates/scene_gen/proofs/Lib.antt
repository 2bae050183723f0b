pub mod Breaches
pub mod Keys
pub mod Made
pub mod Params
pub mod Scales
pub mod Several
