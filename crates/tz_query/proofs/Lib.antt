mod Common
pub mod NumberFronts
pub mod LineFronts
pub mod AddedText
pub mod AnswerLines
pub mod AnswerTexts
pub mod UniqueAnswers
pub mod JoinedPieces
pub mod FastNumbers
pub mod NineDigits
pub mod OtherNanoseconds
pub mod PageLines
pub mod EntryLines
pub mod MeetingAnswers
