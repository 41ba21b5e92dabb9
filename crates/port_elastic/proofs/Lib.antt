pub mod RunLemmas
pub mod OrderLemmas
pub mod SinkLemmas
pub mod PlanLemmas
pub mod ElasticLemmas
pub mod ChainLemmas
pub mod TraceLemmas
