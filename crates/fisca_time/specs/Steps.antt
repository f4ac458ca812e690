pub mod Period
pub mod PeriodText
