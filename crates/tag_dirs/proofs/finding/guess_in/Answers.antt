use Rattle.std.proofs.Common.{◌≡◌, Some, length, slice_get, refl, arith}
use Rattle.std.proofs.lemmas.Option.{slice_get_read}
use Rattle.tag_dirs.proofs.Slots.{map_if}
use Rattle.tag_dirs.proofs.Takeable.{tag_found}
use Rattle.tag_dirs.proofs.finding.guess_in.Goals as goal

pub returns-then-is_some : goal.returns-then-is_some
returns-then-is_some g c =
    let places = c.args.places.now in
    let there : slice_get places c.loop-number.number ≡ Some c.index-places-number.result = slice_get_read places (length places) c.loop-number.number c.index-places-number.result refl (omega arith) c.index-places-number.is in
    map_if (λ tag takes. tag_found (g.M.MetaPages.pages c.args.pages.now) places c.requires.directory c.loop-number.number c.index-places-number.result tag there takes) c.guess_on-found.result c.guess_on-found.ensures
