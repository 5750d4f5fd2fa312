mod Working
mod First
mod Engines
pub mod Copies
mod Same
mod Own
mod Failing
mod Staying
mod Clearing
mod StartingOver
mod Resets
mod ResetAll
mod Zeros
pub mod Others
pub mod Followed
pub mod Exact
pub mod Small
mod Raised
mod Ended
mod Finished
mod Stepped
mod Running
mod OneStep
mod Outcomes
pub mod Kept
pub mod Written
pub mod Registers
pub mod General
pub mod Stopping
mod Words
mod Roots
mod Made
mod Runs
mod Dwords
mod Pairs
mod Plain
mod Unsubmitted
mod BesideNotify
mod Moves
mod Images
mod Steps
mod Loads
mod Refused
mod NextLoaded
mod Announced
mod Exchanging
mod PuttingAway
mod Bringing
