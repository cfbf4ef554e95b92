pub mod Makes
pub mod Numbers
pub mod Layers
pub mod Names
pub mod Standing
