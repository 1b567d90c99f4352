mod Alone
mod Causing
mod Chained
mod Ending
mod Folders
mod Following
mod Gathering
mod Halted
mod LaterSaves
mod Judged
mod Labels
mod Lasting
mod Lengthless
mod Naming
mod Numbering
mod One
mod OneThread
mod Plainly
mod Promised
mod Reading
mod Reported
mod Reruns
mod Saying
mod Statuses
mod Tracing
mod Visited
pub mod Counting
pub mod Determining
pub mod Leaving
pub mod Listing
pub mod Read
pub mod Running
pub mod Sound
pub mod Starting
pub mod Taking
pub mod Reporting
pub mod Words
