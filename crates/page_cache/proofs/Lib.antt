mod Changed
mod Entries
mod First
mod Moves
mod Places
