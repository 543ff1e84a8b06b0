use Rattle.page_faults.proofs.ByLayout.{bits_by_layout}
use Rattle.page_faults.proofs.laws.wrong_bits_by_layout.Goals as goal

pub returns : goal.returns
returns c = λ pages layout home laid none. bits_by_layout pages layout laid none home
