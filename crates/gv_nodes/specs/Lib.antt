pub mod NodeMap
pub mod Keys
pub mod NodeOf
