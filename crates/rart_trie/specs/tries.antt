pub mod CanonicalTest
pub mod Ends
pub mod PrefixLaws
pub mod Tree
pub mod Trie
pub mod TrieCode
