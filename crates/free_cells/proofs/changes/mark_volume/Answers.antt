use Rattle.std.proofs.Common.{◌∙◌, subst}
use Rattle.free_space.specs.Spaces.{volume_of}
use Rattle.free_space.specs.VolumeSpace.{as_kept}
use Rattle.free_cells.specs.Marking.{SaysHeld}
use Rattle.free_cells.specs.Marks.{bitmap_home}
use Rattle.free_cells.proofs.MarkVolume.{changes_bits, freed_within, given_within, says_held, taken_within}
use Rattle.free_cells.proofs.MarkVolumes.{sound_at, volume_changed}
use Rattle.free_cells.proofs.changes.mark_volume.Goals as goal

pub mark_all-requires : goal.mark_all-requires
mark_all-requires g c page is =
    c.requires.there page (taken_within (volume_of c.args.space.now c.args.vol) c.taken.result.now c.taken.ensures (sound_at c.args.space.now c.args.vol c.misses.ensures.sound) page is)

pub mark_all-requires-2 : goal.mark_all-requires-2
mark_all-requires-2 g c page is = c.mark_all.ensures.marks.there (bitmap_home c.args.vol page) ∙ c.requires.there page (freed_within (volume_of c.args.space.now c.args.vol) c.freed.result.now c.freed.ensures c.given_back-given_back.ensures.sound page is)

pub clear_waiting-requires : goal.clear_waiting-requires
clear_waiting-requires g c page is =
    c.mark_all-2.ensures.marks.there (bitmap_home c.args.vol page) ∙ c.mark_all.ensures.marks.there (bitmap_home c.args.vol page)
    ∙ c.requires.there page (given_within (volume_of c.args.space.now c.args.vol) c.given_back-given_back.result.now c.given_back-given_back.ensures.since (sound_at c.args.space.now c.args.vol c.misses.ensures.sound) page is)

pub returns-clause-says : goal.returns-clause-says
returns-clause-says g c =
    says_held c.args.vol (volume_of c.args.space.now c.args.vol) c.taken.result.now c.freed.result.now c.given_back-given_back.result.now c.taken.ensures c.freed.ensures c.given_back-given_back.ensures.since
    (sound_at c.args.space.now c.args.vol c.misses.ensures.sound) c.given_back-given_back.ensures.sound _ _ _ _
    c.mark_all.ensures.marks c.mark_all-2.ensures.marks c.clear_waiting.ensures.marks
    (subst (SaysHeld (g.M.MetaPages.pages c.args.pages.now) c.args.vol) (volume_changed as_kept c.args.space.now c.args.vol) c.requires.said)

pub returns-clause-changes : goal.returns-clause-changes
returns-clause-changes g c =
    changes_bits c.args.vol (volume_of c.args.space.now c.args.vol) c.taken.result.now c.freed.result.now c.given_back-given_back.result.now c.taken.ensures c.freed.ensures c.given_back-given_back.ensures.since
    (sound_at c.args.space.now c.args.vol c.misses.ensures.sound) c.given_back-given_back.ensures.sound _ _ _ _
    c.mark_all.ensures.marks c.mark_all-2.ensures.marks c.clear_waiting.ensures.marks
