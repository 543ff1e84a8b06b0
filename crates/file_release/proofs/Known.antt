-- What is known of a reader's pages.
use Rattle.std.proofs.Common.{◌≡◌, ◌∙◌, ◌⊎◌, List, Option, Some, None, IfSome, sym, ap, subst, ⊎_elim}
use Rattle.fileset_files.specs.domain_base.declared.place.CellAt.{CellAt}
use Rattle.fileset_files.specs.page_store.Pages.{Pages}
use Rattle.fileset_files.specs.metadata_cells.Chain.{PlacedCell}
use Rattle.fileset_files.specs.file_chains.Files.{IsFile, places_of}
use Rattle.fileset_files.proofs.Given.{one_file}
use Rattle.file_release.specs.declared.reader.OwnPages.{OwnPages}
use Rattle.file_release.specs.declared.reader.Reader.{Reader}
use Rattle.file_release.specs.Sharing.{IsKnown, IsReader}

-- what was known of a file that stays is known still
pub known_on : (old new : Pages) (at : CellAt) (own : List PlacedCell) (known result : Option OwnPages) → (result ≡ None) ⊎ (result ≡ known) → IfSome result (λ k. k.at ≡ at) → IsKnown old known → IsFile old at own → IsFile new at own → IsKnown new result
known_on old new at own known None which of was file stays = tt
known_on old new at own known (Some k) which of was file stays = λ chain is page.
    let known_was : IsKnown old (Some k) = ⊎_elim (λ none. absurd (let e : Some k ≡ None = none in cc)) (λ same. subst (IsKnown old) (sym same) was) which in
    known_was own (subst (λ (a : CellAt). IsFile old a own) (sym of) file) page
    ∙ ap (λ (cs : List PlacedCell). places_of cs page) (one_file new k.at own chain (subst (λ (a : CellAt). IsFile new a own) (sym of) stays) is)

-- the file of a reader that is there
pub file_of : (pages : Pages) (reader : Option Reader) (r : Reader) (own : List PlacedCell) → reader ≡ Some r → IsReader pages reader own → IsFile pages r.at own
file_of pages reader r own is reads = subst (λ (o : Option Reader). IsReader pages o own) is reads
