pub mod AtRest
pub mod Moving
pub mod UntoldCalls
