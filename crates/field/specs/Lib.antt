pub mod Standard
pub mod Tables
pub mod Division
