use Rattle.std.proofs.Common.{IfSome, sym, subst}
use Rattle.index_row_faults.specs.domain_layout.Seen.{IsSource}
use Rattle.index_row_faults.specs.filesets_reading.Chains.{HasLinks}
use Rattle.index_row_faults.proofs.OfFilesetShapes.Answered.{if_ok}
use Rattle.slot_files.specs.Said.{place_in}
use Rattle.slot_files.proofs.ReadFiles.{source_there}
use Rattle.slot_files.proofs.chains.source_places.Goals as goal

pub returns-in-Some : goal.returns-in-Some
returns-in-Some g c =
    let pages = g.M.MetaPages.pages c.args.pages.now in
    let links = subst (λ o. IfSome o (HasLinks pages)) c.in-Some.is c.requires.links in
    if_ok c.places_at.result _ _
    (λ places listed. subst (λ o. IsSource pages o (place_in places.items)) (sym c.in-Some.is) (source_there pages c.in-Some.at places.items links listed)) c.places_at.ensures
