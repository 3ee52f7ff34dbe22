pub mod RawBlock
