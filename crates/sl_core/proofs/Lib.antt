pub mod Layers
pub mod Equations
pub mod Alone
pub mod Steady
pub mod Examples
pub mod Slots
