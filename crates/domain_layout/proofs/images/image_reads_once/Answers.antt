use Rattle.domain_layout.proofs.OneMeaning.{means_once}
use Rattle.domain_layout.proofs.images.image_reads_once.Goals as goal

pub returns : goal.returns
returns c = means_once
