use Rattle.std.proofs.Common.{set, subst, sym}
use Rattle.page_store.specs.PageChanges.{changed}
use Rattle.sorted_sets.specs.Rising.{IsGapFor, IsPlaceOf}
use Rattle.page_store.specs.Tags.{Changes}
use Rattle.page_store.proofs.FileLemmas.{changes_at_place, changes_in_gap, found_at_place, sound_at_place}
use Rattle.page_store.proofs.memory_bitfiles.change_page.Goals as goal

pub change-requires-clause-directory : goal.change-requires-clause-directory
change-requires-clause-directory c =
    let place = subst (λ l. IsPlaceOf l c.args.key c.in-Ok.place) c.deref.ensures.value c.in-Ok.ensures.place in
    rw (found_at_place _ _ _ place c.requires.rising c.index_mut.result.now c.index_mut.ensures.value) at c.requires.directory

pub change-requires-clause-place : goal.change-requires-clause-place
change-requires-clause-place c =
    let place = subst (λ l. IsPlaceOf l c.args.key c.in-Ok.place) c.deref.ensures.value c.in-Ok.ensures.place in
    rw (found_at_place _ _ _ place c.requires.rising c.index_mut.result.now c.index_mut.ensures.value) at c.requires.place

pub returns-in_err-change-clause-sound : goal.returns-in_err-change-clause-sound
returns-in_err-change-clause-sound c =
    let place = subst (λ l. IsPlaceOf l c.args.key c.in-Ok.place) c.deref.ensures.value c.in-Ok.ensures.place in
    sound_at_place _ _ _ place c.requires.rising c.requires.sound c.index_mut.result.now c.index_mut.ensures.value c.change.new.self c.change.ensures.sound

pub returns-in_ok-change-clause-sound : goal.returns-in_ok-change-clause-sound
returns-in_ok-change-clause-sound c =
    let place = subst (λ l. IsPlaceOf l c.args.key c.in-Ok.place) c.deref.ensures.value c.in-Ok.ensures.place in
    sound_at_place _ _ _ place c.requires.rising c.requires.sound c.index_mut.result.now c.index_mut.ensures.value c.change.new.self c.change.ensures.sound

pub returns-in_ok-change-clause-ok : goal.returns-in_ok-change-clause-ok
returns-in_ok-change-clause-ok c =
    let files = c.args.files.now.items in
    let item = c.index_mut.result.now in
    let place = subst (λ l. IsPlaceOf l c.args.key c.in-Ok.place) c.deref.ensures.value c.in-Ok.ensures.place in
    subst (λ file. Changes files (set files c.in-Ok.place (item.0, file)) c.args.key (changed c.args.change c.args.page c.args.bytes)) (sym c.in_ok-change.ensures.ok)
    (changes_at_place files c.args.key c.in-Ok.place place c.requires.rising item c.index_mut.ensures.value (changed c.args.change c.args.page c.args.bytes))

pub returns-in_default-clause-ok : goal.returns-in_default-clause-ok
returns-in_default-clause-ok c =
    let gap = subst (λ l. IsGapFor l c.args.key c.in_default.field-0) c.deref.ensures.value c.in_default.ensures.gap in
    changes_in_gap _ _ _ gap (changed c.args.change c.args.page c.args.bytes)
