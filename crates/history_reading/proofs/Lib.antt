pub mod LineLemmas
mod ReplyForms
mod ReplyRead
mod Steps
mod OneCommand
