pub mod Uses
pub mod Wide
