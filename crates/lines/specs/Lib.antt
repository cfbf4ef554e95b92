pub mod Scaled
pub mod ScaledLemmas
pub mod BlockText
pub mod Words
pub mod CaseText
pub mod Cases
