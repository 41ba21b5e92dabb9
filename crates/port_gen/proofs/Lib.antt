pub mod PlanLemmas
pub mod SumLemmas
pub mod HandLemmas
pub mod StartLemmas
pub mod LawLemmas
pub mod SummaryLemmas
