use Rattle.std.proofs.Common.{subst, sym, set}
use Rattle.page_store.specs.Bitfiles.{linked}
use Rattle.sorted_sets.specs.Rising.{IsGapFor, IsPlaceOf}
use Rattle.page_store.specs.Tags.{Changes}
use Rattle.page_store.proofs.FileLemmas.{changes_at_place, changes_in_gap, sound_at_place}
use Rattle.page_store.proofs.memory_bitfiles.set_links.Goals as goal

pub returns-in-Ok-clause-value : goal.returns-in-Ok-clause-value
returns-in-Ok-clause-value c =
    let files = c.args.files.now.items in
    let item = c.index_mut.result.now in
    let place = subst (λ l. IsPlaceOf l c.args.key c.in-Ok.place) c.deref.ensures.value c.in-Ok.ensures.place in
    subst (λ file. Changes files (set files c.in-Ok.place (item.0, file)) c.args.key (linked c.args.links)) (sym c.set_links.ensures.value)
    (changes_at_place files c.args.key c.in-Ok.place place c.requires.rising item c.index_mut.ensures.value (linked c.args.links))

pub returns-in_default-clause-value : goal.returns-in_default-clause-value
returns-in_default-clause-value c =
    let gap = subst (λ l. IsGapFor l c.args.key c.in_default.field-0) c.deref.ensures.value c.in_default.ensures.gap in
    changes_in_gap _ _ _ gap (linked c.args.links)

pub returns-in-Ok-clause-sound : goal.returns-in-Ok-clause-sound
returns-in-Ok-clause-sound c =
    let place = subst (λ l. IsPlaceOf l c.args.key c.in-Ok.place) c.deref.ensures.value c.in-Ok.ensures.place in
    sound_at_place _ _ _ place c.requires.rising c.requires.sound c.index_mut.result.now c.index_mut.ensures.value c.set_links.new.self c.set_links.ensures.sound
