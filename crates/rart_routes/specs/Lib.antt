pub mod Answers
pub mod Command
pub mod Found
pub mod Net
pub mod Script
pub mod Stop
pub mod Tables
