pub mod Splitting
pub mod NodeTexts
pub mod Numbers
pub mod ListTexts
pub mod Verbs
pub mod OneCommand
