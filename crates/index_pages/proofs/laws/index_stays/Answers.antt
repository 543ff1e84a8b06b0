use Rattle.index_pages.proofs.Homes.{kept_same, shown_same}
use Rattle.index_pages.proofs.laws.index_stays.Goals as goal

pub returns : goal.returns
returns c = λ old new first homes are same. (kept_same old new first homes are same, shown_same old new homes same)
