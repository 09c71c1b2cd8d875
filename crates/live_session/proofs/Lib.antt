pub mod api
mod IntakeSteps
mod SpelledSteps
mod SessionLaws
mod CourseSteps
