pub mod Cycles
pub mod Days
pub mod Fields
pub mod PrintedText
