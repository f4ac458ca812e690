mod Commands
mod Matches
mod Parses
