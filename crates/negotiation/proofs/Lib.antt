pub mod BitLemmas
pub mod StatusLemmas
pub mod HistoryLemmas
