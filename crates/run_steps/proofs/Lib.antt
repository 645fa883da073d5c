pub mod Taking
pub mod Working
pub mod Delivering
pub mod Completing
pub mod RunPromises
