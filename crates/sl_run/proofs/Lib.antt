pub mod Then
pub mod Puts
pub mod Alone
pub mod Steady
pub mod Equations
pub mod Alike
pub mod Outcomes
pub mod Statements
