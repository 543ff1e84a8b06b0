use Rattle.std.proofs.Common.{◌≡◌, ◌∙◌, ◌+◌, ◌-◌, ◌<◌, ◌≤◌, ℕ, Some, None, Option, List, length, ap, refl, subst, sym}
use Rattle.std.specs.Option.{option_and_then}
use Rattle.index_pages.specs.domain_base.declared.place.Home.{Home}
use Rattle.index_pages.specs.page_store.Pages.{Pages}
use Rattle.index_pages.specs.Changes.{PutsIndexPage}
use Rattle.index_pages.specs.Homes.{AreIndexHomes, shown_at}
use Rattle.index_pages.proofs.Homes.{one_list}
use Rattle.index_pages.specs.fileset_files.declared.indexing.IndexPlace.{IndexPlace}
use Rattle.index_pages.specs.fileset_files.Shown.{index_of}
use Rattle.index_pages.proofs.OfFilesetFiles.Created.{one_chains}
use Rattle.stored_set.specs.Whole.{entries_on}
use Rattle.stored_set.proofs.IndexWritten.{gone_most, homes_said, set_written, starts}
use Rattle.stored_set.proofs.Indexed.{counted, homes_at, not_none}
use Rattle.stored_set.proofs.Lengthened.{is_some}
use Rattle.stored_set.proofs.Live.{live_any}
use Rattle.stored_set.specs.Sets.{StandsAsSet, WritesIndexPage}
use Rattle.stored_set.proofs.indexes.write_index_page.Goals as goal

pub unreachable-requires : goal.unreachable-requires
unreachable-requires g c =
    let set = c.requires.set.0 in
    let was = c.requires.set.1 in
    not_none c.args.files.now.fileset c.args.files.now.tags c.args.space.now c.args.cells.now (g.M.MetaPages.pages c.args.pages.now) set was c.args.tag (c.requires.directory set was) c.args.page (c.requires.there set was)
    (sym c.in_default.is ∙ c.index.ensures was.chains was.stands.together.files)

pub entries_at-gone-requires : goal.entries_at-gone-requires
entries_at-gone-requires g c =
    let set = c.requires.set.0 in
    let was = c.requires.set.1 in (
      was.indexes c.args.tag,
      homes_at c.args.files.now.fileset c.args.files.now.tags c.args.space.now c.args.cells.now (g.M.MetaPages.pages c.args.pages.now) set was c.args.tag (c.requires.directory set was) (Some c.in-Some.index) (sym c.in-Some.is ∙ c.index.ensures was.chains was.stands.together.files),
    )

pub changed_total-requires : goal.changed_total-requires
changed_total-requires g c =
    let set = c.requires.set.0 in
    let was = c.requires.set.1 in
    let pages = g.M.MetaPages.pages c.args.pages.now in
    let fileset = c.args.files.now.fileset in
    let places = c.args.files.now.tags in
    let space = c.args.space.now in
    let cells = c.args.cells.now in
    let directory = c.requires.directory set was in
    let told = sym c.in-Some.is ∙ c.index.ensures was.chains was.stands.together.files in
    subst (λ n. n ≤ c.in-Some.index.entries) (sym (c.entries_at-gone.ensures (was.indexes c.args.tag) (homes_at fileset places space cells pages set was c.args.tag directory (Some c.in-Some.index) told)))
    (gone_most fileset places space cells pages set was c.args.tag directory c.in-Some.index told c.args.page)

pub set_index-requires-clause-live : goal.set_index-requires-clause-live
set_index-requires-clause-live g c = λ chains are.
    let set = c.requires.set.0 in
    let was = c.requires.set.1 in
    live_any c.args.files.now.fileset c.args.files.now.tags c.args.space.now c.args.cells.now (g.M.MetaPages.pages c.args.pages.now) set was c.args.tag (is_some set c.args.tag (c.requires.directory set was)) chains are

pub put_index_page-requires : goal.put_index_page-requires
put_index_page-requires g c =
    let set = c.requires.set.0 in
    let was = c.requires.set.1 in
    let old = g.M.MetaPages.pages c.args.pages.now in
    let mid = g.M.MetaPages.pages c.set_index.new.pages in
    let fileset = c.args.files.now.fileset in
    let places = c.args.files.now.tags in
    let space = c.args.space.now in
    let cells = c.args.cells.now in
    let directory = c.requires.directory set was in
    let told = sym c.in-Some.is ∙ c.index.ensures was.chains was.stands.together.files in
    let now : IndexPlace = record { first = c.in-Some.index.first; entries = c.in-Some-changed_total.entries } in (
      was.indexes c.args.tag,
      homes_said fileset places space cells old set was c.args.tag directory c.in-Some.index told now refl mid (c.set_index.ensures.beside was.chains was.stands.together.files) (c.in_ok-set_index.ensures.together space cells was.chains was.stands.together),
      subst (λ n. c.args.page < n) (counted fileset places space cells old set was c.args.tag directory) (c.requires.there set was),
    )

pub returns-clause-ok : goal.returns-clause-ok
returns-clause-ok g c = λ set was.
    let old = g.M.MetaPages.pages c.args.pages.now in
    let mid = g.M.MetaPages.pages c.set_index.new.pages in
    let fileset = c.args.files.now.fileset in
    let places = c.args.files.now.tags in
    let space = c.args.space.now in
    let cells = c.args.cells.now in
    let tag = c.args.tag in
    let directory = c.requires.directory set was in
    let told = sym c.in-Some.is ∙ c.index.ensures was.chains was.stands.together.files in
    let now : IndexPlace = record { first = c.in-Some.index.first; entries = c.in-Some-changed_total.entries } in
    let gone_is = c.entries_at-gone.ensures (was.indexes tag) (homes_at fileset places space cells old set was tag directory (Some c.in-Some.index) told) in
    let first = c.set_index.ensures.beside was.chains was.stands.together.files in
    let together = c.in_ok-set_index.ensures.together space cells was.chains was.stands.together in
    let homes = homes_said fileset places space cells old set was tag directory c.in-Some.index told now refl mid first together in
    set_written fileset places space cells old set was tag directory c.in-Some.index told now refl mid first together c.args.page c.args.bytes c.entries_on.ensures.whole (c.requires.there set was)
    (subst (λ n. now.entries ≡ c.in-Some.index.entries - n + entries_on c.args.bytes) gone_is (subst (λ n. now.entries ≡ c.in-Some.index.entries - c.entries_at-gone.result + n) c.entries_on.ensures.value c.in-Some-changed_total.ensures))
    (g.M.MetaPages.pages c.put_index_page.new.pages) (c.put_index_page.ensures.put (was.indexes tag) homes)

pub returns-clause-writes : goal.returns-clause-writes
returns-clause-writes g c = λ chains homes belong begin.
    let set = c.requires.set.0 in
    let was = c.requires.set.1 in
    let old = g.M.MetaPages.pages c.args.pages.now in
    let mid = g.M.MetaPages.pages c.set_index.new.pages in
    let new = g.M.MetaPages.pages c.put_index_page.new.pages in
    let fileset = c.args.files.now.fileset in
    let places = c.args.files.now.tags in
    let space = c.args.space.now in
    let cells = c.args.cells.now in
    let tag = c.args.tag in
    let directory = c.requires.directory set was in
    let told = sym c.in-Some.is ∙ c.index.ensures was.chains was.stands.together.files in
    let now : IndexPlace = record { first = c.in-Some.index.first; entries = c.in-Some-changed_total.entries } in
    let starts_there : option_and_then index_of (chains tag) ≡ Some c.in-Some.index.first
    = ap (option_and_then index_of) (one_chains old fileset places chains was.chains belong.files was.stands.together.files tag) ∙ starts fileset places space cells old set was tag directory c.in-Some.index told in
    let same : homes ≡ was.indexes tag = one_list old (Some c.in-Some.index.first) homes (was.indexes tag) (subst (λ o. AreIndexHomes old o homes) starts_there begin) (homes_at fileset places space cells old set was tag directory (Some c.in-Some.index) told) in
    let first = c.set_index.ensures.beside was.chains was.stands.together.files in
    let together = c.in_ok-set_index.ensures.together space cells was.chains was.stands.together in
    let stand = homes_said fileset places space cells old set was tag directory c.in-Some.index told now refl mid first together in
    record {
      said = mid;
      says = record {
        index = now;
        first = c.set_index.ensures.beside chains belong.files;
        together = c.in_ok-set_index.ensures.together space cells chains belong;
      };
      same = starts_there;
      puts = subst (λ (hs : List Home). PutsIndexPage (Some c.in-Some.index.first) c.args.page c.args.bytes mid new hs) (sym same) (c.put_index_page.ensures.put (was.indexes tag) stand);
    }
