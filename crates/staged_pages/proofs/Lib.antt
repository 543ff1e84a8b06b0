mod Edits
mod Listed
mod Settled
