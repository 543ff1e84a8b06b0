use Rattle.index_pages.proofs.Homes.{shown}
use Rattle.index_pages.proofs.laws.index_is_shown.Goals as goal

pub returns : goal.returns
returns c = λ pages first homes are. shown pages first homes are
