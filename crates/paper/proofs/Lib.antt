-- Card 8: fewer cuts allowed, the same split (FewerCuts); both entries divide alike (AsExamined).
pub mod FewerCuts
pub mod AsExamined
