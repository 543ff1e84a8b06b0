use Rattle.standing_laws.proofs.SourcesSaid.{alone_by_files, files_alone}
use Rattle.standing_laws.proofs.sources.files_stand_alone.Goals as goal

pub returns : goal.returns
returns c = λ d files indexes below. (files_alone d files indexes below, alone_by_files d files indexes below)
