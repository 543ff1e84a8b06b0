use Rattle.std.proofs.Common.{◌≡◌, ◌∙◌, Some, List, length, slice_get, vec_len, sym, ap, arith, refl, rules}
use Rattle.std.proofs.lemmas.Option.{slice_get_read}
use Rattle.tag_dirs.specs.declared.dir.TagPlace.{TagPlace}
use Rattle.tag_dirs.proofs.Slots.{map_if}
use Rattle.tag_dirs.proofs.Takeable.{if_none, none_used, on_page, used_found}
use Rattle.tag_dirs.proofs.dir.TagDir.tag_on.Goals as goal

pub returns-clause-there : goal.returns-clause-there
returns-clause-there g c =
    let places = c.self.inside.places.items in
    let as_items : vec_len c.self.inside.places ≡ length places = search rules in
    let read = slice_get_read places (length places) c.args.number c.index.result.now refl (omega (arith, c.if-len-number.false, c.len.ensures, as_items)) c.index.ensures in
    let there : slice_get c.args.self.now c.args.number ≡ Some c.index.result.now = ap (λ (ps : List TagPlace). slice_get ps c.args.number) (sym c.self.view_is) ∙ read in
    map_if (λ tag used. used_found (g.M.MetaPages.pages c.args.pages.now) c.args.self.now c.requires c.args.number c.index.result.now tag there used) c.used_on.result c.used_on.ensures.some

pub returns-clause-on : goal.returns-clause-on
returns-clause-on g c =
    let places = c.self.inside.places.items in
    let as_items : vec_len c.self.inside.places ≡ length places = search rules in
    let read = slice_get_read places (length places) c.args.number c.index.result.now refl (omega (arith, c.if-len-number.false, c.len.ensures, as_items)) c.index.ensures in
    let there : slice_get c.args.self.now c.args.number ≡ Some c.index.result.now = ap (λ (ps : List TagPlace). slice_get ps c.args.number) (sym c.self.view_is) ∙ read in
    map_if (λ tag used. on_page c.args.self.now c.args.number c.index.result.now tag there used.0) c.used_on.result c.used_on.ensures.some

pub returns-clause-none : goal.returns-clause-none
returns-clause-none g c =
    let places = c.self.inside.places.items in
    let as_items : vec_len c.self.inside.places ≡ length places = search rules in
    let read = slice_get_read places (length places) c.args.number c.index.result.now refl (omega (arith, c.if-len-number.false, c.len.ensures, as_items)) c.index.ensures in
    let there : slice_get c.args.self.now c.args.number ≡ Some c.index.result.now = ap (λ (ps : List TagPlace). slice_get ps c.args.number) (sym c.self.view_is) ∙ read in
    if_none (λ none tag on. none_used (g.M.MetaPages.pages c.args.pages.now) c.args.self.now c.requires c.args.number c.index.result.now there none tag on) c.used_on.result c.used_on.ensures.none
