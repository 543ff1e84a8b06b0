use Rattle.release_steps.proofs.TagPages.{tag_pages_wait}
use Rattle.release_steps.proofs.waiting.pages_taken_off_wait.Goals as goal

pub returns : goal.returns
returns c = tag_pages_wait
