pub mod Losers
