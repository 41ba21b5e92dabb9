mod WordLemmas
mod WrittenLemmas
mod InsideLemmas
mod PendingLemmas
mod RunLemmas
mod LineLemmas
mod TokenLemmas
mod SyntaxRules
mod ItemLemmas
mod LeafLemmas
mod StartLemmas
mod TypedLemmas
mod YieldLemmas
mod BlockLemmas
pub mod FitLemmas
mod StopLemmas
pub mod printed
