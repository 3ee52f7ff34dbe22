pub mod KeyedMapping
