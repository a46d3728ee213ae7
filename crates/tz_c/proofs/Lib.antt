mod Common
pub mod AnswersInTurn
pub mod ColumnInstants
pub mod ClockIndexes
pub mod CodeTexts
pub mod NameBytes
pub mod SingleCalls
pub mod SoundRules
