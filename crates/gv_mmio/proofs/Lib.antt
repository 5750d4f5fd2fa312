mod Behind
mod Ported
mod Resets
