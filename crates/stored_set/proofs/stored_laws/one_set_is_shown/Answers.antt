use Rattle.std.proofs.Common.{subst}
use Rattle.index_pages.specs.fileset_files.Shown.{ShowsAt}
use Rattle.index_pages.proofs.OfFilesetFiles.Created.{one_chains}
use Rattle.index_pages.proofs.OfFilesetFiles.ShownOnce.{show_once}
use Rattle.stored_set.proofs.stored_laws.one_set_is_shown.Goals as goal

pub returns : goal.returns
returns c = λ fileset places space other_space cells other_cells pages one other tag a b.
    show_once pages a.chains one other a.stands.shows
    (λ t. subst (λ o. ShowsAt pages o (other t)) (one_chains pages fileset places b.chains a.chains b.stands.together.files a.stands.together.files t) (b.stands.shows t)) tag
