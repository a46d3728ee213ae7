pub mod Dates
pub mod DateTexts
pub mod Steps
pub mod WeekDays
pub mod WeekDates
pub mod DayStarts
