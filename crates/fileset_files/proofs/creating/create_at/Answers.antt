use Rattle.std.proofs.Common.{◌≡◌, ◌∙◌, ◌≤◌, ◌++◌, ◌∷◌, [], List, false, rules, subst, sym}
use Rattle.file_chains.specs.metadata_cells.CellPage.{home_of}
use Rattle.tag_dirs.specs.declared.dir.TagPlace.{TagPlace}
use Rattle.tag_dirs.specs.Directory.{CanTake, IsDirectory, has_home}
use Rattle.tag_dirs.proofs.Added.{last_there}
use Rattle.fileset_files.specs.Creation.{Creates, Enters, LeavesBeside, TakesNext}
use Rattle.fileset_files.proofs.Created.{after_cell, apart_at, beside_created, creates, last_put, next_zero, others_created, place_put, prepared_put, takes_next}
use Rattle.fileset_files.proofs.FirstRoom.{first_fits}
use Rattle.fileset_files.proofs.creating.create_at.Goals as goal

pub put_ready-requires-clause-last : goal.put_ready-requires-clause-last
put_ready-requires-clause-last g c =
    let old = g.M.MetaPages.pages c.args.pages.now in
    let between = g.M.MetaPages.pages c.take_for_page.new.pages in
    let at = c.in-Ok.field-0.at in
    let low : 1 ≤ at.vol = search rules in
    let ensures = c.in-Ok.ensures in
    let are = c.requires.together.1 in
    let before = after_cell c.args.prefer at old between c.args.fileset c.args.tags.now c.requires.together.0 c.args.space.now c.take_for_page.new.space c.args.cells.now c.take_for_page.new.cells low are ensures.ok ensures.allocated ensures.zeros in
    last_there between c.args.tags.now c.in-Ok.field-0.ready.last before.files.directory ensures.ready.last

pub enter_file-requires-clause-directory : goal.enter_file-requires-clause-directory
enter_file-requires-clause-directory g c =
    let old = g.M.MetaPages.pages c.args.pages.now in
    let between = g.M.MetaPages.pages c.take_for_page.new.pages in
    let at = c.in-Ok.field-0.at in
    let low : 1 ≤ at.vol = search rules in
    let ensures = c.in-Ok.ensures in
    let are = c.requires.together.1 in
    let before = after_cell c.args.prefer at old between c.args.fileset c.args.tags.now c.requires.together.0 c.args.space.now c.take_for_page.new.space c.args.cells.now c.take_for_page.new.cells low are ensures.ok ensures.allocated ensures.zeros in
    let put = g.M.MetaPages.pages c.put_ready.new.pages in
    let adds = c.put_ready.ensures.added c.args.tags.now c.args.index c.args.home.now before.files.directory ensures.ready (next_zero c.args.tags.now c.args.index c.requires.next) c.requires.next.unused c.requires.no_tags in
    let prepared = prepared_put c.args.prefer at old between c.args.fileset c.args.tags.now c.requires.together.0 c.args.space.now c.take_for_page.new.space c.args.cells.now c.take_for_page.new.cells low are ensures.ok ensures.allocated ensures.zeros
    c.args.index c.args.home.now c.requires.next c.requires.apart c.requires.no_tags (c.requires.nowhere c.requires.together.0 are) put adds c.first_tag-tag.result c.first_tag-tag.ensures.slot c.first_tag-tag.ensures.seq in
    let all : List TagPlace = c.args.tags.now ++ record { index = c.args.index; home = c.args.home.now } ∷ [] in
    subst (IsDirectory put) (sym ensures.places) prepared.together.files.directory

pub enter_file-requires-clause-tag : goal.enter_file-requires-clause-tag
enter_file-requires-clause-tag g c =
    let old = g.M.MetaPages.pages c.args.pages.now in
    let between = g.M.MetaPages.pages c.take_for_page.new.pages in
    let at = c.in-Ok.field-0.at in
    let low : 1 ≤ at.vol = search rules in
    let ensures = c.in-Ok.ensures in
    let are = c.requires.together.1 in
    let before = after_cell c.args.prefer at old between c.args.fileset c.args.tags.now c.requires.together.0 c.args.space.now c.take_for_page.new.space c.args.cells.now c.take_for_page.new.cells low are ensures.ok ensures.allocated ensures.zeros in
    let put = g.M.MetaPages.pages c.put_ready.new.pages in
    let adds = c.put_ready.ensures.added c.args.tags.now c.args.index c.args.home.now before.files.directory ensures.ready (next_zero c.args.tags.now c.args.index c.requires.next) c.requires.next.unused c.requires.no_tags in
    let prepared = prepared_put c.args.prefer at old between c.args.fileset c.args.tags.now c.requires.together.0 c.args.space.now c.take_for_page.new.space c.args.cells.now c.take_for_page.new.cells low are ensures.ok ensures.allocated ensures.zeros
    c.args.index c.args.home.now c.requires.next c.requires.apart c.requires.no_tags (c.requires.nowhere c.requires.together.0 are) put adds c.first_tag-tag.result c.first_tag-tag.ensures.slot c.first_tag-tag.ensures.seq in
    let all : List TagPlace = c.args.tags.now ++ record { index = c.args.index; home = c.args.home.now } ∷ [] in
    subst (λ (places : List TagPlace). CanTake put places c.first_tag-tag.result) (sym ensures.places) prepared.can

pub enter_file-requires-clause-place : goal.enter_file-requires-clause-place
enter_file-requires-clause-place g c =
    let old = g.M.MetaPages.pages c.args.pages.now in
    let between = g.M.MetaPages.pages c.take_for_page.new.pages in
    let at = c.in-Ok.field-0.at in
    let low : 1 ≤ at.vol = search rules in
    let ensures = c.in-Ok.ensures in
    let are = c.requires.together.1 in
    let before = after_cell c.args.prefer at old between c.args.fileset c.args.tags.now c.requires.together.0 c.args.space.now c.take_for_page.new.space c.args.cells.now c.take_for_page.new.cells low are ensures.ok ensures.allocated ensures.zeros in
    let put = g.M.MetaPages.pages c.put_ready.new.pages in
    let adds = c.put_ready.ensures.added c.args.tags.now c.args.index c.args.home.now before.files.directory ensures.ready (next_zero c.args.tags.now c.args.index c.requires.next) c.requires.next.unused c.requires.no_tags in
    let prepared = prepared_put c.args.prefer at old between c.args.fileset c.args.tags.now c.requires.together.0 c.args.space.now c.take_for_page.new.space c.args.cells.now c.take_for_page.new.cells low are ensures.ok ensures.allocated ensures.zeros
    c.args.index c.args.home.now c.requires.next c.requires.apart c.requires.no_tags (c.requires.nowhere c.requires.together.0 are) put adds c.first_tag-tag.result c.first_tag-tag.ensures.slot c.first_tag-tag.ensures.seq in
    let all : List TagPlace = c.args.tags.now ++ record { index = c.args.index; home = c.args.home.now } ∷ [] in
    place_put c.args.prefer at old between c.args.fileset c.args.tags.now c.requires.together.0 c.args.space.now c.take_for_page.new.space c.args.cells.now c.take_for_page.new.cells low are ensures.ok ensures.allocated ensures.zeros
    c.args.index c.args.home.now c.requires.next c.requires.apart c.requires.no_tags (c.requires.nowhere c.requires.together.0 are) put adds ensures.place

pub enter_file-requires-clause-apart : goal.enter_file-requires-clause-apart
enter_file-requires-clause-apart g c =
    let old = g.M.MetaPages.pages c.args.pages.now in
    let between = g.M.MetaPages.pages c.take_for_page.new.pages in
    let at = c.in-Ok.field-0.at in
    let low : 1 ≤ at.vol = search rules in
    let ensures = c.in-Ok.ensures in
    let are = c.requires.together.1 in
    let before = after_cell c.args.prefer at old between c.args.fileset c.args.tags.now c.requires.together.0 c.args.space.now c.take_for_page.new.space c.args.cells.now c.take_for_page.new.cells low are ensures.ok ensures.allocated ensures.zeros in
    let put = g.M.MetaPages.pages c.put_ready.new.pages in
    let adds = c.put_ready.ensures.added c.args.tags.now c.args.index c.args.home.now before.files.directory ensures.ready (next_zero c.args.tags.now c.args.index c.requires.next) c.requires.next.unused c.requires.no_tags in
    let prepared = prepared_put c.args.prefer at old between c.args.fileset c.args.tags.now c.requires.together.0 c.args.space.now c.take_for_page.new.space c.args.cells.now c.take_for_page.new.cells low are ensures.ok ensures.allocated ensures.zeros
    c.args.index c.args.home.now c.requires.next c.requires.apart c.requires.no_tags (c.requires.nowhere c.requires.together.0 are) put adds c.first_tag-tag.result c.first_tag-tag.ensures.slot c.first_tag-tag.ensures.seq in
    let all : List TagPlace = c.args.tags.now ++ record { index = c.args.index; home = c.args.home.now } ∷ [] in
    subst (λ (places : List TagPlace). has_home places (home_of at) ≡ false) (sym ensures.places) (apart_at c.args.fileset all c.first_tag-tag.result at c.requires.together.0 c.take_for_page.new.space c.args.cells.now c.take_for_page.new.cells old put prepared)

pub enter_file-requires-clause-fits : goal.enter_file-requires-clause-fits
enter_file-requires-clause-fits g c = first_fits c.in_ok-records.records c.in_ok-records.ensures.good c.in_ok-records.ensures.kinds

pub returns-in-Ok-clause-ok : goal.returns-in-Ok-clause-ok
returns-in-Ok-clause-ok g c = λ chains together.
    let old = g.M.MetaPages.pages c.args.pages.now in
    let between = g.M.MetaPages.pages c.take_for_page.new.pages in
    let at = c.in-Ok.field-0.at in
    let low : 1 ≤ at.vol = search rules in
    let ensures = c.in-Ok.ensures in
    let are = together in
    let before = after_cell c.args.prefer at old between c.args.fileset c.args.tags.now chains c.args.space.now c.take_for_page.new.space c.args.cells.now c.take_for_page.new.cells low are ensures.ok ensures.allocated ensures.zeros in
    let put = g.M.MetaPages.pages c.put_ready.new.pages in
    let adds = c.put_ready.ensures.added c.args.tags.now c.args.index c.args.home.now before.files.directory ensures.ready (next_zero c.args.tags.now c.args.index c.requires.next) c.requires.next.unused c.requires.no_tags in
    let prepared = prepared_put c.args.prefer at old between c.args.fileset c.args.tags.now chains c.args.space.now c.take_for_page.new.space c.args.cells.now c.take_for_page.new.cells low are ensures.ok ensures.allocated ensures.zeros
    c.args.index c.args.home.now c.requires.next c.requires.apart c.requires.no_tags (c.requires.nowhere chains are) put adds c.first_tag-tag.result c.first_tag-tag.ensures.slot c.first_tag-tag.ensures.seq in
    let all : List TagPlace = c.args.tags.now ++ record { index = c.args.index; home = c.args.home.now } ∷ [] in
    let new = g.M.MetaPages.pages c.enter_file.new.pages in
    let all_are = sym (c.enter_file.ensures.same ∙ ensures.places) in
    subst (λ (places : List TagPlace). Creates c.args.fileset places c.first_tag-tag.result c.args.version c.args.what.now chains c.take_for_page.new.space c.args.cells.now c.take_for_page.new.cells old new) all_are
    (creates c.args.fileset all c.first_tag-tag.result at chains c.take_for_page.new.space c.args.cells.now c.take_for_page.new.cells old put prepared c.in_ok-records.records new
    (subst (λ (places : List TagPlace). Enters c.args.fileset places c.first_tag-tag.result at c.in_ok-records.records put new) ensures.places c.enter_file.ensures.entered) c.args.version c.args.what.now c.in_ok-records.ensures)

pub returns-in-Ok-clause-others : goal.returns-in-Ok-clause-others
returns-in-Ok-clause-others g c =
    let old = g.M.MetaPages.pages c.args.pages.now in
    let between = g.M.MetaPages.pages c.take_for_page.new.pages in
    let at = c.in-Ok.field-0.at in
    let low : 1 ≤ at.vol = search rules in
    let ensures = c.in-Ok.ensures in
    let are = c.requires.together.1 in
    let before = after_cell c.args.prefer at old between c.args.fileset c.args.tags.now c.requires.together.0 c.args.space.now c.take_for_page.new.space c.args.cells.now c.take_for_page.new.cells low are ensures.ok ensures.allocated ensures.zeros in
    let put = g.M.MetaPages.pages c.put_ready.new.pages in
    let adds = c.put_ready.ensures.added c.args.tags.now c.args.index c.args.home.now before.files.directory ensures.ready (next_zero c.args.tags.now c.args.index c.requires.next) c.requires.next.unused c.requires.no_tags in
    let prepared = prepared_put c.args.prefer at old between c.args.fileset c.args.tags.now c.requires.together.0 c.args.space.now c.take_for_page.new.space c.args.cells.now c.take_for_page.new.cells low are ensures.ok ensures.allocated ensures.zeros
    c.args.index c.args.home.now c.requires.next c.requires.apart c.requires.no_tags (c.requires.nowhere c.requires.together.0 are) put adds c.first_tag-tag.result c.first_tag-tag.ensures.slot c.first_tag-tag.ensures.seq in
    let all : List TagPlace = c.args.tags.now ++ record { index = c.args.index; home = c.args.home.now } ∷ [] in
    let new = g.M.MetaPages.pages c.enter_file.new.pages in
    others_created c.args.fileset all c.first_tag-tag.result at c.requires.together.0 c.take_for_page.new.space c.args.cells.now c.take_for_page.new.cells old put prepared c.in_ok-records.records new
    (subst (λ (places : List TagPlace). Enters c.args.fileset places c.first_tag-tag.result at c.in_ok-records.records put new) ensures.places c.enter_file.ensures.entered) c.args.version c.args.what.now c.in_ok-records.ensures

pub returns-in-Ok-clause-next : goal.returns-in-Ok-clause-next
returns-in-Ok-clause-next g c =
    let old = g.M.MetaPages.pages c.args.pages.now in
    let between = g.M.MetaPages.pages c.take_for_page.new.pages in
    let at = c.in-Ok.field-0.at in
    let low : 1 ≤ at.vol = search rules in
    let ensures = c.in-Ok.ensures in
    let are = c.requires.together.1 in
    let before = after_cell c.args.prefer at old between c.args.fileset c.args.tags.now c.requires.together.0 c.args.space.now c.take_for_page.new.space c.args.cells.now c.take_for_page.new.cells low are ensures.ok ensures.allocated ensures.zeros in
    let put = g.M.MetaPages.pages c.put_ready.new.pages in
    let adds = c.put_ready.ensures.added c.args.tags.now c.args.index c.args.home.now before.files.directory ensures.ready (next_zero c.args.tags.now c.args.index c.requires.next) c.requires.next.unused c.requires.no_tags in
    let prepared = prepared_put c.args.prefer at old between c.args.fileset c.args.tags.now c.requires.together.0 c.args.space.now c.take_for_page.new.space c.args.cells.now c.take_for_page.new.cells low are ensures.ok ensures.allocated ensures.zeros
    c.args.index c.args.home.now c.requires.next c.requires.apart c.requires.no_tags (c.requires.nowhere c.requires.together.0 are) put adds c.first_tag-tag.result c.first_tag-tag.ensures.slot c.first_tag-tag.ensures.seq in
    let all : List TagPlace = c.args.tags.now ++ record { index = c.args.index; home = c.args.home.now } ∷ [] in
    let new = g.M.MetaPages.pages c.enter_file.new.pages in
    let all_are = sym (c.enter_file.ensures.same ∙ ensures.places) in
    let last = last_put c.args.prefer at old between c.args.fileset c.args.tags.now c.requires.together.0 c.args.space.now c.take_for_page.new.space c.args.cells.now c.take_for_page.new.cells low are ensures.ok ensures.allocated ensures.zeros
    c.args.index c.args.home.now c.requires.next c.requires.apart c.requires.no_tags (c.requires.nowhere c.requires.together.0 are) put adds in
    subst (λ (places : List TagPlace). TakesNext c.first_tag-tag.result c.args.tags.now places old new) all_are
    (takes_next c.args.fileset all c.first_tag-tag.result at c.requires.together.0 c.take_for_page.new.space c.args.cells.now c.take_for_page.new.cells old put prepared c.in_ok-records.records new
    (subst (λ (places : List TagPlace). Enters c.args.fileset places c.first_tag-tag.result at c.in_ok-records.records put new) ensures.places c.enter_file.ensures.entered) c.args.version c.args.what.now c.in_ok-records.ensures c.args.tags.now last)

pub returns-in-Ok-clause-elsewhere : goal.returns-in-Ok-clause-elsewhere
returns-in-Ok-clause-elsewhere g c =
    let old = g.M.MetaPages.pages c.args.pages.now in
    let between = g.M.MetaPages.pages c.take_for_page.new.pages in
    let at = c.in-Ok.field-0.at in
    let low : 1 ≤ at.vol = search rules in
    let ensures = c.in-Ok.ensures in
    let are = c.requires.together.1 in
    let before = after_cell c.args.prefer at old between c.args.fileset c.args.tags.now c.requires.together.0 c.args.space.now c.take_for_page.new.space c.args.cells.now c.take_for_page.new.cells low are ensures.ok ensures.allocated ensures.zeros in
    let put = g.M.MetaPages.pages c.put_ready.new.pages in
    let adds = c.put_ready.ensures.added c.args.tags.now c.args.index c.args.home.now before.files.directory ensures.ready (next_zero c.args.tags.now c.args.index c.requires.next) c.requires.next.unused c.requires.no_tags in
    let prepared = prepared_put c.args.prefer at old between c.args.fileset c.args.tags.now c.requires.together.0 c.args.space.now c.take_for_page.new.space c.args.cells.now c.take_for_page.new.cells low are ensures.ok ensures.allocated ensures.zeros
    c.args.index c.args.home.now c.requires.next c.requires.apart c.requires.no_tags (c.requires.nowhere c.requires.together.0 are) put adds c.first_tag-tag.result c.first_tag-tag.ensures.slot c.first_tag-tag.ensures.seq in
    let all : List TagPlace = c.args.tags.now ++ record { index = c.args.index; home = c.args.home.now } ∷ [] in
    let new = g.M.MetaPages.pages c.enter_file.new.pages in
    let all_are = sym (c.enter_file.ensures.same ∙ ensures.places) in
    subst (λ (places : List TagPlace). LeavesBeside c.take_for_page.new.cells places old new) all_are
    (beside_created c.args.fileset all c.first_tag-tag.result at c.requires.together.0 c.take_for_page.new.space c.args.cells.now c.take_for_page.new.cells old put prepared c.in_ok-records.records new
    (subst (λ (places : List TagPlace). Enters c.args.fileset places c.first_tag-tag.result at c.in_ok-records.records put new) ensures.places c.enter_file.ensures.entered) c.args.version c.args.what.now c.in_ok-records.ensures)
