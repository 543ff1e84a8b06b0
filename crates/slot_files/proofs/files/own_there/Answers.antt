use Rattle.std.proofs.Common.{◌≡◌, ◌∙◌, false, true, List, Option, sym, subst}
use Rattle.index_row_faults.specs.file_chains.Files.{places_of}
use Rattle.index_row_faults.specs.file_release.Reading.{read_home}
use Rattle.index_row_faults.specs.domain_layout.Seen.{IsSource}
use Rattle.index_row_faults.specs.page_ways.Frame.{frame_in}
use Rattle.slot_files.specs.Files.{own_homes}
use Rattle.slot_files.specs.Said.{ListsPlaces, place_in, said_in}
use Rattle.slot_files.specs.declared.said.SaidHome.{SaidHome}
use Rattle.slot_files.specs.declared.said.SaidPlace.{SaidPlace}
use Rattle.slot_files.proofs.ReadFiles.{if_both, own_said, read_directory, read_plain, some_source}
use Rattle.slot_files.proofs.files.own_there.Goals as goal
use Rattle.slot_files.proofs.files.own_there.Goals.{in-File, in_default}

no_bool : {P : Type 0} → false ≡ true → P
no_bool is = absurd (cc)

pub returns-then-matches : goal.returns-then-matches
returns-then-matches g c =
    let pages = g.M.MetaPages.pages c.args.pages.now in
    let source = some_source pages c.args.from.now c.requires.links in
    record {
      source = source.0;
      through = source.1;
      read = read_plain pages (frame_in c.args.frame.now) c.args.tag c.args.at.now c.args.is.now (own_homes source.0) c.file_there-file.result c.file_there-file.ensures
          (elim c.match-matches.branch [ in-File w ↦ w.in-File.is | in_default w ↦ no_bool (sym w.matches-is ∙ c.if-matches.true) ]);
    }

pub returns : goal.returns
returns g c =
    let pages = g.M.MetaPages.pages c.args.pages.now in
    let frame = frame_in c.args.frame.now in
    let own = c.deref.result.now in
    let source = c.deref-2.result.now in
    let own_2 = c.deref-3.result.now in
    let said = c.deref-4.result.now in
    if_both c.directory_there.result _ _ _
    (λ found same has. record {
      source = place_in source;
      through = subst (λ (l : List SaidPlace). IsSource pages c.args.from.now (place_in l)) (sym c.deref-2.ensures.value) c.in_ok-source.ensures;
      read = read_directory pages frame c.args.tag c.args.at.now c.args.is.now (own_homes (place_in source)) c.file_there-file.result found own_2 said c.file_there-file.ensures same has
          (λ cells links. subst (ListsPlaces (places_of cells)) (sym c.deref-3.ensures.value) (c.in_ok-own.ensures cells links))
          (own_said pages c.args.at.now c.frozen_at.result own source said c.frozen_at.ensures (λ cells links. subst (ListsPlaces (places_of cells)) (sym c.deref.ensures.value) (c.in_ok-own.ensures cells links))
          (λ page. subst (λ (l : List (Option SaidHome)). said_in l page ≡ read_home c.frozen_at.result (place_in own) (place_in source) page) (sym c.deref-4.ensures.value) (c.in_ok-homes.ensures page)));
    })
    c.directory_there.ensures.same c.directory_there.ensures.pages
