pub mod SparseBlock
