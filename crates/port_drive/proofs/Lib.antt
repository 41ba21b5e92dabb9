mod Examples
pub mod DriveLemmas
pub mod DrivenLemmas
pub mod FinishLemmas
pub mod RunLemmas
pub mod StartLemmas
pub mod HeadLemmas
pub mod TextLemmas
pub mod TraceLemmas
pub mod FormLemmas
pub mod WordLemmas
