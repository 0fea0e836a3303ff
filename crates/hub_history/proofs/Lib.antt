pub mod HistoryLemmas
pub mod OpeningLemmas
mod EachRepository
pub mod PushLemmas
pub mod JudgeLemmas
mod ShortNames
mod ObjectLemmas
mod FormedObjects
mod RefsApart
pub mod CollisionLemmas
pub mod GrownObjects
pub mod WholeRefs
pub mod GrowthLemmas
pub mod WholeLogs
pub mod MovedRefs
pub mod MovedLogs
mod NoZero
mod FirstAtOdds
mod InTheWay
mod AnswerLemmas
mod ConfLemmas
pub mod RoleSets
pub mod RoleLemmas
