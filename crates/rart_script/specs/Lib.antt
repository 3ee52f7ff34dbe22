pub mod Answers
pub mod Command
pub mod Key
pub mod Script
pub mod Stats
pub mod Stop
pub mod Value
