pub mod mapping
