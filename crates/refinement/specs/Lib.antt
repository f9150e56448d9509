pub mod Hands
pub mod Runs
pub mod AsRules
pub mod Refusals
pub mod Demands
pub mod RegistrationOnWords
pub mod RulesOnWords
