pub mod ParserWords
pub mod Stops
pub mod Claims
