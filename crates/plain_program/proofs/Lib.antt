pub mod RefusalLemmas
pub mod WalkLemmas
pub mod MemberLemmas
pub mod ExtentLemmas
pub mod OfFilesetModel
pub mod OfFilesetValues
pub mod OfLegalHistories
pub mod OfSortedSets
