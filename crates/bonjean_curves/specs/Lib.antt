pub mod Trapezium
pub mod Quotient
