use Rattle.std.proofs.Common.{◌≡◌, ◌∙◌, ◌+◌, ◌^◌, ◌<◌, ◌≤◌, ℕ, rules, Some, None, Option, List, Contains, length, ap, refl, subst, sym}
use Rattle.std.specs.Option.{option_and_then, option_map_or}
use Rattle.index_pages.specs.domain_base.declared.place.Home.{Home}
use Rattle.index_pages.specs.page_store.Bitfiles.{insert_index, shown_index, with_change}
use Rattle.index_pages.specs.page_store.Pages.{Pages}
use Rattle.index_pages.specs.free_space.VolumeSpace.{with_page, without_page}
use Rattle.index_pages.specs.free_space.Spaces.{CanTake, IsHeld, Spaces, change_volume, missed}
use Rattle.index_pages.proofs.OfFileChains.Spaces.{given_back}
use Rattle.index_pages.proofs.OfFilesetFiles.Grown.{apart_now}
use Rattle.index_pages.specs.fileset_files.declared.indexing.IndexPlace.{IndexPlace}
use Rattle.index_pages.specs.fileset_files.Changes.{ChangesFirst, with_chain, with_first}
use Rattle.index_pages.specs.fileset_files.Files.{AreFiles}
use Rattle.index_pages.specs.fileset_files.Index.{says_index}
use Rattle.index_pages.specs.fileset_files.Shown.{index_of}
use Rattle.index_pages.specs.fileset_files.Together.{AreTogether}
use Rattle.index_pages.proofs.OfFilesetFiles.Again.{together_missed}
use Rattle.index_pages.proofs.OfFilesetFiles.Created.{one_chains, together_page}
use Rattle.index_pages.specs.Changes.{InsertsIndexPage}
use Rattle.index_pages.specs.Homes.{AreIndexHomes}
use Rattle.index_pages.proofs.Homes.{one_list}
use Rattle.stored_set.specs.Whole.{entries_on}
use Rattle.stored_set.proofs.Indexed.{begins, counted, first_of}
use Rattle.stored_set.proofs.Lengthened.{is_some}
use Rattle.stored_set.proofs.Live.{live_any, missed_still}
use Rattle.stored_set.proofs.PutIn.{homes_mid, homes_old, off_index, set_inserted, together_taken}
use Rattle.stored_set.specs.Sets.{AddsIndexPage, StandsAsSet}
use Rattle.stored_set.proofs.inserting.insert_index_page.Goals as goal

pub total_with-requires : goal.total_with-requires
total_with-requires g c =
    let set = c.requires.set.0 in
    let was = c.requires.set.1 in
    let old = g.M.MetaPages.pages c.args.pages.now in
    (was.indexes c.args.tag, homes_old c.args.files.now.fileset c.args.files.now.tags c.args.space.now c.args.cells.now old set was c.args.tag (c.requires.directory set was) c.index-index.result (c.index-index.ensures was.chains was.stands.together.files))

pub returns-in_default-allocate-clause-err : goal.returns-in_default-allocate-clause-err
returns-in_default-allocate-clause-err g c = λ set was.
    let old = g.M.MetaPages.pages c.args.pages.now in
    let fileset = c.args.files.now.fileset in
    let places = c.args.files.now.tags in
    let space = c.args.space.now in
    let cells = c.args.cells.now in
    subst (λ (ps : Pages). StandsAsSet fileset places c.allocate.new.self cells ps set) (sym c.reserve.ensures.same)
    (subst (λ (s : Spaces). StandsAsSet fileset places s cells old set) (sym c.in_default-allocate.ensures.missed)
    (record {
      chains = was.chains;
      indexes = was.indexes;
      stands = missed_still fileset places space cells old was.chains was.indexes set was.stands (together_missed old fileset places was.chains space cells was.stands.together);
      whole = was.whole;
      bare = was.bare;
      low = was.low;
    }))

pub set_index-requires-clause-live : goal.set_index-requires-clause-live
set_index-requires-clause-live g c = λ chains are.
    let set = c.requires.set.0 in
    let was = c.requires.set.1 in
    live_any c.args.files.now.fileset c.args.files.now.tags c.args.space.now c.args.cells.now (g.M.MetaPages.pages c.args.pages.now) set was c.args.tag (is_some set c.args.tag (c.requires.directory set was)) chains
    (subst (λ (ps : Pages). AreFiles c.args.files.now.fileset c.args.files.now.tags ps chains) c.reserve.ensures.same are)

pub unreserve-requires : goal.unreserve-requires
unreserve-requires g c =
    let was = c.requires.set.1 in
    let home = c.in-Some-allocate.home in
    let low : 1 ≤ home.vol = search rules in
    subst (λ (s : Spaces). IsHeld s home.vol home.page) (sym c.in-Some-allocate.ensures.taken)
    (apart_now c.args.space.now c.args.cells.now (g.M.MetaPages.pages c.args.pages.now) home low was.stands.together.allocated c.in-Some-allocate.ensures.some).held

pub returns-in-Err-clause-none : goal.returns-in-Err-clause-none
returns-in-Err-clause-none g c =
    let home = c.in-Some-allocate.home in
    c.unreserve.ensures ∙ ap (λ (s : Spaces). change_volume (without_page home.page) s home.vol) c.in-Some-allocate.ensures.taken ∙ given_back c.args.space.now home.vol home.page c.in-Some-allocate.ensures.some

pub returns-in-Err-clause-err : goal.returns-in-Err-clause-err
returns-in-Err-clause-err g c = λ set was.
    let home = c.in-Some-allocate.home in
    let fileset = c.args.files.now.fileset in
    let places = c.args.files.now.tags in
    let back = c.unreserve.ensures ∙ ap (λ (s : Spaces). change_volume (without_page home.page) s home.vol) c.in-Some-allocate.ensures.taken ∙ given_back c.args.space.now home.vol home.page c.in-Some-allocate.ensures.some in
    subst (λ (ps : Pages). StandsAsSet fileset places c.unreserve.new.self c.args.cells.now ps set) (sym (c.in-Err.ensures.err ∙ c.reserve.ensures.same))
    (subst (λ (s : Spaces). StandsAsSet fileset places s c.args.cells.now (g.M.MetaPages.pages c.args.pages.now) set) (sym back) was)

pub link_index_page-requires-clause-index : goal.link_index_page-requires-clause-index
link_index_page-requires-clause-index g c =
    let set = c.requires.set.0 in
    let was = c.requires.set.1 in
    let old = g.M.MetaPages.pages c.args.pages.now in
    let mid = g.M.MetaPages.pages c.set_index.new.pages in
    let fileset = c.args.files.now.fileset in
    let places = c.args.files.now.tags in
    let space = c.args.space.now in
    let cells = c.args.cells.now in
    let tag = c.args.tag in
    let home = c.in-Some-allocate.home in
    let low : 1 ≤ home.vol = search rules in
    let directory = c.requires.directory set was in
    let told = c.index-index.ensures was.chains was.stands.together.files in
    let free = c.in-Some-allocate.ensures.some in
    let first : ChangesFirst (was.chains tag) old mid = subst (λ (ps : Pages). ChangesFirst (was.chains tag) ps mid) c.reserve.ensures.same
    (c.set_index.ensures.beside was.chains (subst (λ (ps : Pages). AreFiles fileset places ps was.chains) (sym c.reserve.ensures.same) was.stands.together.files)) in (
      was.indexes tag,
      subst (λ o. AreIndexHomes mid o (was.indexes tag)) (sym c.begin_of-first.ensures) (homes_mid fileset places space cells old set was tag directory c.index-index.result told home low free mid first),
      subst (λ n. c.args.number ≤ n) (counted fileset places space cells old set was tag directory) (c.requires.there set was),
      off_index fileset places space cells old set was tag directory c.index-index.result told home low free mid first,
    )

pub returns-in-Ok-clause-ok : goal.returns-in-Ok-clause-ok
returns-in-Ok-clause-ok g c = λ set was.
    let old = g.M.MetaPages.pages c.args.pages.now in
    let mid = g.M.MetaPages.pages c.set_index.new.pages in
    let new = g.M.MetaPages.pages c.link_index_page.new.pages in
    let fileset = c.args.files.now.fileset in
    let places = c.args.files.now.tags in
    let space = c.args.space.now in
    let cells = c.args.cells.now in
    let tag = c.args.tag in
    let home = c.in-Some-allocate.home in
    let low : 1 ≤ home.vol = search rules in
    let directory = c.requires.directory set was in
    let told = c.index-index.ensures was.chains was.stands.together.files in
    let free = c.in-Some-allocate.ensures.some in
    let first : ChangesFirst (was.chains tag) old mid = subst (λ (ps : Pages). ChangesFirst (was.chains tag) ps mid) c.reserve.ensures.same
    (c.set_index.ensures.beside was.chains (subst (λ (ps : Pages). AreFiles fileset places ps was.chains) (sym c.reserve.ensures.same) was.stands.together.files)) in
    let now : IndexPlace = record { first = c.new_first-begins.result; entries = c.in-Some.entries } in
    let taken = together_taken fileset places space cells old set was tag directory c.index-index.result told home low free mid first in
    let together = c.in-Ok.ensures.together (change_volume (with_page home.page) space home.vol) cells was.chains (subst (λ (ps : Pages). AreTogether fileset places (change_volume (with_page home.page) space home.vol) cells ps was.chains) (sym c.reserve.ensures.same) taken) in
    let homes = homes_mid fileset places space cells old set was tag directory c.index-index.result told home low free mid first in
    let inserts = c.link_index_page.ensures.inserted (was.indexes tag) (subst (λ o. AreIndexHomes mid o (was.indexes tag)) (sym c.begin_of-first.ensures) homes) in
    let fits = c.in-Some.ensures.fits (was.indexes tag) (homes_old fileset places space cells old set was tag directory c.index-index.result told) in
    subst (λ (s : Spaces). StandsAsSet fileset places s cells new (with_change tag (insert_index c.args.number (shown_index c.args.bytes)) set)) (sym c.in-Some-allocate.ensures.taken)
    (set_inserted fileset places space cells old set was tag directory c.index-index.result told home low free mid first now c.args.number c.args.bytes c.entries_on.ensures.whole (c.requires.there set was)
    (c.in-Some.ensures.total ∙ ap (λ n. option_map_or (λ (place : IndexPlace). place.entries) c.index-index.result 0 + n) c.entries_on.ensures.value) fits together new
    (subst (λ (begin : Home). InsertsIndexPage begin home c.args.number c.args.bytes mid new (was.indexes tag)) (c.link_index_page.ensures.begins ∙ sym c.new_first-begins.ensures) inserts))

pub returns-in-Ok-clause-adds : goal.returns-in-Ok-clause-adds
returns-in-Ok-clause-adds g c = λ chains homes belong begin.
    let set = c.requires.set.0 in
    let was = c.requires.set.1 in
    let old = g.M.MetaPages.pages c.args.pages.now in
    let mid = g.M.MetaPages.pages c.set_index.new.pages in
    let new = g.M.MetaPages.pages c.link_index_page.new.pages in
    let fileset = c.args.files.now.fileset in
    let places = c.args.files.now.tags in
    let space = c.args.space.now in
    let cells = c.args.cells.now in
    let tag = c.args.tag in
    let home = c.in-Some-allocate.home in
    let low : 1 ≤ home.vol = search rules in
    let directory = c.requires.directory set was in
    let told = c.index-index.ensures was.chains was.stands.together.files in
    let free = c.in-Some-allocate.ensures.some in
    let first : ChangesFirst (was.chains tag) old mid = subst (λ (ps : Pages). ChangesFirst (was.chains tag) ps mid) c.reserve.ensures.same
    (c.set_index.ensures.beside was.chains (subst (λ (ps : Pages). AreFiles fileset places ps was.chains) (sym c.reserve.ensures.same) was.stands.together.files)) in
    let starts = ap (option_and_then index_of) (one_chains old fileset places chains was.chains belong.files was.stands.together.files tag) ∙ begins fileset places space cells old set was tag directory ∙ ap first_of (sym told) in
    let same : homes ≡ was.indexes tag = one_list old (first_of c.index-index.result) homes (was.indexes tag) (subst (λ o. AreIndexHomes old o homes) starts begin) (homes_old fileset places space cells old set was tag directory c.index-index.result told) in
    let stand = homes_mid fileset places space cells old set was tag directory c.index-index.result told home low free mid first in
    let taken = together_page old fileset places chains space cells home belong in
    let inserts = c.link_index_page.ensures.inserted (was.indexes tag) (subst (λ o. AreIndexHomes mid o (was.indexes tag)) (sym c.begin_of-first.ensures) stand) in
    record {
      home = home;
      free = free;
      preferred = c.in-Some-allocate.ensures.preferred;
      taken = c.in-Some-allocate.ensures.taken;
      said = mid;
      says = record {
        index = record { first = c.new_first-begins.result; entries = c.in-Some.entries };
        first = subst (λ (ps : Pages). ChangesFirst (chains tag) ps mid) c.reserve.ensures.same (c.set_index.ensures.beside chains (subst (λ (ps : Pages). AreFiles fileset places ps chains) (sym c.reserve.ensures.same) belong.files));
        together = subst (λ (s : Spaces). AreTogether fileset places s cells mid (with_chain tag (with_first (says_index (Some (record { first = c.new_first-begins.result; entries = c.in-Some.entries })))) chains)) (sym c.in-Some-allocate.ensures.taken)
            (c.in-Ok.ensures.together (change_volume (with_page home.page) space home.vol) cells chains (subst (λ (ps : Pages). AreTogether fileset places (change_volume (with_page home.page) space home.vol) cells ps chains) (sym c.reserve.ensures.same) taken));
      };
      inserts = subst (λ (b : Home). InsertsIndexPage b home c.args.number c.args.bytes mid new homes) (c.link_index_page.ensures.begins ∙ sym c.new_first-begins.ensures)
          (subst (λ (hs : List Home). InsertsIndexPage c.link_index_page.result home c.args.number c.args.bytes mid new hs) (sym same) inserts);
    }
