pub mod Consecutive
