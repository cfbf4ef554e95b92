pub mod Codes
pub mod Findings
