pub mod utils
