use Rattle.std.proofs.Common.{◌≡◌, ◌∙◌, ◌/◌, Some, List, length, vec_len, sym, ap, arith, rules}
use Rattle.tag_dirs.specs.declared.dir.TagPlace.{TagPlace}
use Rattle.tag_dirs.specs.Directory.{home_with, number_with}
use Rattle.tag_dirs.proofs.Places.{number_within, place_read, unnumbered}
use Rattle.tag_dirs.proofs.dir.TagDir.home_of.Goals as goal

pub returns-in_err-number : goal.returns-in_err-number
returns-in_err-number c = c.from_residual.ensures ∙ sym (unnumbered c.args.self.now (c.args.slot / 1022) (sym c.number_of.ensures ∙ c.in_err-number.was))

pub index-requires : goal.index-requires
index-requires c =
    let places = c.self.inside.places.items in
    let index = c.args.slot / 1022 in
    let at : number_with places index ≡ Some c.in_ok-number.number = ap (λ (ps : List TagPlace). number_with ps index) c.self.view_is ∙ sym c.number_of.ensures ∙ c.in_ok-number.was in
    let as_items : vec_len c.self.inside.places ≡ length places = search rules in
    omega (arith, number_within places index c.in_ok-number.number at)

pub returns : goal.returns
returns c =
    let places = c.self.inside.places.items in
    let index = c.args.slot / 1022 in
    let at : number_with places index ≡ Some c.in_ok-number.number = ap (λ (ps : List TagPlace). number_with ps index) c.self.view_is ∙ sym c.number_of.ensures ∙ c.in_ok-number.was in
    sym (place_read places index c.in_ok-number.number c.index.result.now at c.index.ensures) ∙ ap (λ (ps : List TagPlace). home_with ps index) c.self.view_is
