mod Covering
mod FoundSlots
mod Gathered
mod Loading
mod Rising
mod Untouched
pub mod Fits
pub mod Found
pub mod Consistent
pub mod Judged
pub mod Keeping
pub mod Ours
pub mod Outlasted
pub mod Prefixes
pub mod Seen
pub mod Turns
pub mod Progressing
