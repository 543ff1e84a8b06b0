use Rattle.std.proofs.Common.{◌≡◌, ℕ, Some, length, refl, slice_get, subst, arith}
use Rattle.std.proofs.lemmas.Option.{slice_get_read}
use Rattle.slot_files.proofs.slots.tags_of.Goals as goal

pub returns : goal.returns
returns c =
    let tags = c.args.tables.now.tags.items in
    subst (λ (n : ℕ). slice_get tags n ≡ Some c.index.result.now) c.number.ensures.value
    (slice_get_read tags (length tags) c.number.result c.index.result.now refl (omega (arith, c.number.ensures.range, c.requires)) c.index.ensures)
