pub mod Rota
