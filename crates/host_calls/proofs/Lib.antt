pub mod Metering
pub mod Placed
pub mod Rising
pub mod Public
