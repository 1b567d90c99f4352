pub mod Answers
pub mod DueAnswers
pub mod Arguments
pub mod Judged
pub mod Laws
pub mod Questions
pub mod ArgumentBytes
pub mod Usage
