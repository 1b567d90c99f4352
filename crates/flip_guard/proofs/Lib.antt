pub mod CutAlone
