use Rattle.file_release.proofs.Others.{others_held}
use Rattle.file_release.proofs.laws.other_pages_stay_held.Goals as goal

pub returns : goal.returns
returns c = others_held
