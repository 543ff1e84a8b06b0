use Rattle.release_steps.proofs.HeldPages.{held_exactly}
use Rattle.release_steps.proofs.calls.pages_are_held_exactly.Goals as goal

pub returns : goal.returns
returns c = held_exactly
