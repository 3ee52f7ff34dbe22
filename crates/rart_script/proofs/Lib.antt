pub mod CommandLemmas
pub mod PrintLemmas
pub mod ScriptLemmas
pub mod ValueLemmas
