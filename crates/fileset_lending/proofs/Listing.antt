-- Files that come on the list after others.
use Rattle.std.proofs.Common.{◌≡◌, ◌++◌, List, [], ◌∷◌, refl, sym, subst}
use Rattle.domain_memory.specs.domain_base.declared.place.CellAt.{CellAt}
use Rattle.domain_memory.specs.release_list.Listing.{Listing}
use Rattle.domain_memory.specs.Listing.{HaveOnce, list_with, put_all_on, put_on}
use Rattle.domain_memory.proofs.Listed.{once_all, once_put, put_adds, put_both}
use Rattle.set_standing.specs.Parts.{AddsFiles}

pub all_added : (more : List CellAt) (list : Listing) → HaveOnce list.entries → AddsFiles more list (list_with more list)
all_added [] list once = refl
all_added (at ∷ more) list once = (
  record list { entries = put_on at list.entries },
  record { entries = put_adds at list.entries once; tag_pages = refl },
  all_added more (record list { entries = put_on at list.entries }) (once_put at list.entries once),
)

pub behind_added : (listed more : List CellAt) (list : Listing) → HaveOnce list.entries → AddsFiles more (list_with listed list) (list_with (listed ++ more) list)
behind_added listed more list once =
    let both : list_with more (list_with listed list) ≡ list_with (listed ++ more) list = λ i. record list { entries = sym_both i } in
    subst (AddsFiles more (list_with listed list)) both (all_added more (list_with listed list) (once_all listed list.entries once))
  where
    sym_both : put_all_on more (put_all_on listed list.entries) ≡ put_all_on (listed ++ more) list.entries
    sym_both = sym (put_both listed more list.entries)
