use Rattle.set_standing.proofs.FileCalls.{described_again}
use Rattle.set_standing.proofs.files.all_stands_around_a_file_that_is_described.Goals as goal

pub returns : goal.returns
returns c = described_again
