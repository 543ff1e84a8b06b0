use Rattle.release_steps.proofs.HeldPages.{given_free}
use Rattle.release_steps.proofs.calls.given_pages_were_free.Goals as goal

pub returns : goal.returns
returns c = given_free
