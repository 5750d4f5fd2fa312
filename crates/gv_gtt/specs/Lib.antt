pub mod Gtt
pub mod Standing
pub mod Changes
pub mod Turning
pub mod Laws
