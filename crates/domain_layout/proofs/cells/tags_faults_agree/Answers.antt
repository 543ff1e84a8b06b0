use Rattle.domain_layout.proofs.TagsAlike.{same_tags_faults}
use Rattle.domain_layout.proofs.cells.tags_faults_agree.Goals as goal

pub returns : goal.returns
returns c = λ one other frame table home cells tags. same_tags_faults one other frame table home cells tags
