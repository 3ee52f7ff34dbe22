pub mod bitarray
