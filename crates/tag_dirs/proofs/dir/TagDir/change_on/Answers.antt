use Rattle.std.proofs.Common.{◌≡◌, ◌∙◌, ◌/◌, Some, List, length, vec_len, sym, ap, arith, rules}
use Rattle.tag_dirs.specs.declared.dir.TagPlace.{TagPlace}
use Rattle.tag_dirs.specs.Directory.{home_with, number_with}
use Rattle.tag_dirs.proofs.Places.{number_within, place_read}
use Rattle.tag_dirs.proofs.Slots.{can_have, slot_changed}
use Rattle.tag_dirs.proofs.dir.TagDir.change_on.Goals as goal

pub index-requires : goal.index-requires
index-requires g c =
    let places = c.self.inside.places.items in
    let index = c.args.slot / 1022 in
    let at : number_with places index ≡ Some c.args.number = ap (λ (ps : List TagPlace). number_with ps index) c.self.view_is ∙ c.requires.number in
    let as_items : vec_len c.self.inside.places ≡ length places = search rules in
    omega (arith, number_within places index c.args.number at)

pub change_entry-requires-clause-page : goal.change_entry-requires-clause-page
change_entry-requires-clause-page g c =
    let places = c.self.inside.places.items in
    let index = c.args.slot / 1022 in
    let at : number_with places index ≡ Some c.args.number = ap (λ (ps : List TagPlace). number_with ps index) c.self.view_is ∙ c.requires.number in
    let home : home_with c.args.self.now index ≡ Some c.index.result.now.home = sym (ap (λ (ps : List TagPlace). home_with ps index) c.self.view_is) ∙ place_read places index c.args.number c.index.result.now at c.index.ensures in
    can_have (g.M.MetaPages.pages c.args.pages.now) c.args.self.now c.args.slot c.index.result.now.home c.args.entry.now c.requires.directory home c.requires.allowed

pub returns-clause-changes : goal.returns-clause-changes
returns-clause-changes g c =
    let places = c.self.inside.places.items in
    let index = c.args.slot / 1022 in
    let at : number_with places index ≡ Some c.args.number = ap (λ (ps : List TagPlace). number_with ps index) c.self.view_is ∙ c.requires.number in
    let home : home_with c.args.self.now index ≡ Some c.index.result.now.home = sym (ap (λ (ps : List TagPlace). home_with ps index) c.self.view_is) ∙ place_read places index c.args.number c.index.result.now at c.index.ensures in
    slot_changed (g.M.MetaPages.pages c.args.pages.now) (g.M.MetaPages.pages c.change_entry.new.pages) c.args.self.now c.args.slot c.index.result.now.home c.args.entry.now c.requires.directory home c.change_entry.ensures.changes
