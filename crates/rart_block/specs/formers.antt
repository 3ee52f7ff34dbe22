pub mod block
pub mod raw
pub mod raw_sparse
pub mod sparse_block
