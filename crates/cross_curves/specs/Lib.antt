pub mod Kn
