-- Laws of the rules over an operation's sources.
pub mod Sources
pub mod Rules
pub mod Looks
pub mod Verdicts
