pub mod Dwords
pub mod FrontCommand
pub mod Steps
pub mod Pages
pub mod Placing
pub mod Laying
pub mod Walking
pub mod Joined
