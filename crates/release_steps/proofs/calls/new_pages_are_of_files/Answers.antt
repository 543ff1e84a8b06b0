use Rattle.release_steps.proofs.NewPages.{new_page_home}
use Rattle.release_steps.proofs.calls.new_pages_are_of_files.Goals as goal

pub returns : goal.returns
returns c = new_page_home
