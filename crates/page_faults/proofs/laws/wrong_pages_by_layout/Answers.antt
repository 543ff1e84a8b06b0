use Rattle.page_faults.proofs.ByLayout.{pages_by_layout}
use Rattle.page_faults.proofs.laws.wrong_pages_by_layout.Goals as goal

pub returns : goal.returns
returns c = λ pages layout home laid none. pages_by_layout pages layout laid none home
