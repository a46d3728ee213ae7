pub mod DatesRead
pub mod DaysOfMonths
pub mod CivilDates
pub mod DaysOfWeeks
pub mod YearsOfWeeks
pub mod DayWalks
pub mod UniqueDates
pub mod UniqueStarts
