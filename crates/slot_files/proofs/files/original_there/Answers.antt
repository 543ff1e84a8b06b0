use Rattle.std.proofs.Common.{◌≡◌, ◌∙◌, false, true, List, Option, sym, subst}
use Rattle.index_row_faults.specs.file_chains.Files.{places_of}
use Rattle.index_row_faults.specs.extent_maps.Runs.{home_at}
use Rattle.index_row_faults.specs.extent_records.Writing.{places_before}
use Rattle.index_row_faults.specs.page_ways.Frame.{frame_in}
use Rattle.slot_files.specs.Files.{kept_homes}
use Rattle.slot_files.specs.Said.{ListsPlaces, place_in, said_in}
use Rattle.slot_files.specs.declared.said.SaidHome.{SaidHome}
use Rattle.slot_files.proofs.ReadFiles.{if_both, kept_said, read_directory, read_plain}
use Rattle.slot_files.proofs.files.original_there.Goals as goal
use Rattle.slot_files.proofs.files.original_there.Goals.{in-File, in_default}

no_bool : {P : Type 0} → false ≡ true → P
no_bool is = absurd (cc)

pub returns-then-matches : goal.returns-then-matches
returns-then-matches g c =
    read_plain (g.M.MetaPages.pages c.args.pages.now) (frame_in c.args.frame.now) c.args.tag c.args.at.now c.args.is.now (kept_homes c.args.keep) c.file_there-file.result c.file_there-file.ensures
    (elim c.match-matches.branch [ in-File w ↦ w.in-File.is | in_default w ↦ no_bool (sym w.matches-is ∙ c.if-matches.true) ])

pub returns : goal.returns
returns g c =
    let pages = g.M.MetaPages.pages c.args.pages.now in
    let frame = frame_in c.args.frame.now in
    let places = c.deref.result.now in
    let places_2 = c.deref-2.result.now in
    let said = c.deref-3.result.now in
    if_both c.directory_there.result _ _ _
    (λ found same has. read_directory pages frame c.args.tag c.args.at.now c.args.is.now (kept_homes c.args.keep) c.file_there-file.result found places_2 said c.file_there-file.ensures same has
    (λ cells links. subst (ListsPlaces (places_of cells)) (sym c.deref-2.ensures.value) (c.in_ok-places.ensures cells links))
    (kept_said pages c.args.at.now c.args.keep places said (λ cells links. subst (ListsPlaces (places_of cells)) (sym c.deref.ensures.value) (c.in_ok-places.ensures cells links))
    (λ page. subst (λ (l : List (Option SaidHome)). said_in l page ≡ home_at (places_before c.args.keep (place_in places) page)) (sym c.deref-3.ensures.value) (c.in_ok-homes.ensures page))))
    c.directory_there.ensures.same c.directory_there.ensures.pages
