pub mod Window
pub mod Copy
pub mod Packing
pub mod Laws
