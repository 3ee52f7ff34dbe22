pub mod SampleKeys
