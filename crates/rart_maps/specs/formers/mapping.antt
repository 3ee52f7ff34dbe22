pub mod direct_mapping
pub mod indexed_mapping
pub mod keyed_mapping
pub mod sorted_keyed_mapping
