pub mod RawSparseBlock
