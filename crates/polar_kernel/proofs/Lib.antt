pub mod Halves
pub mod Stages
mod StagesInWords
mod StagesOfLists
mod StagesOfWords
pub mod WordBits
pub mod WordLaws
pub mod Words
pub mod WordsWithin
