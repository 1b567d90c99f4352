pub mod Counting
pub mod Loads
pub mod OpenedFolders
pub mod Permitted
pub mod Texts
