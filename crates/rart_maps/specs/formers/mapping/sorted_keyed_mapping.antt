pub mod SortedKeyedMapping
