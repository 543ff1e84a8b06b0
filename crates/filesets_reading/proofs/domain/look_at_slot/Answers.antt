use Rattle.std.proofs.Common.{◌≡◌, ◌∙◌, ℕ, Some, length, refl, slice_get, sym, subst, arith}
use Rattle.std.proofs.lemmas.Option.{slice_get_read}
use Rattle.filesets_reading.specs.Good.{frame_at}
use Rattle.filesets_reading.proofs.Domains.{may_have}
use Rattle.filesets_reading.proofs.domain.look_at_slot.Goals as goal

pub look_at_files-requires : goal.look_at_files-requires
look_at_files-requires g c =
    let pages = g.M.MetaPages.pages c.args.pages.now in
    let at : slice_get c.args.tables.now.tags.items c.args.number ≡ Some c.index.result.now =
    subst (λ (n : ℕ). slice_get c.args.tables.now.tags.items n ≡ Some c.index.result.now) c.number.ensures.value
    (slice_get_read c.args.tables.now.tags.items (length c.args.tables.now.tags.items) c.number.result c.index.result.now refl (omega (arith, c.number.ensures.range, c.requires.tables.all)) c.index.ensures) in
    may_have pages (frame_at c.args.anchor.now c.args.version) c.args.tables.now c.requires.tables c.requires.no_fault c.args.number c.slot.result.now c.in-Some.field-0 c.index.result.now
    c.slot.ensures.value (sym c.first_tag.ensures ∙ c.in-Some.is) at
