use Rattle.std.proofs.Common.{◌≡◌, true, List, arith, get_or, refl, subst}
use Rattle.release_steps.specs.tag_dirs.declared.dir.TagPlace.{TagPlace}
use Rattle.release_steps.specs.tag_dirs.Directory.{has_home}
use Rattle.release_tables.specs.Called.{fileset_in, parts_of}
use Rattle.release_tables.proofs.Stoods.{first_home, tags_well}
use Rattle.release_tables.proofs.removing.list_tag_page.Goals as goal

pub returns : goal.returns
returns c =
    let r = c.requires in
    let world = c.args.world.now in
    let place : TagPlace = get_or c.tag_places-places.result.now 0 c.index-places-0.result in
    let one = c.if-places-ne1.false in
    let has = subst (λ (ps : List TagPlace). has_home ps place.home ≡ true) c.tag_places-places.ensures (first_home c.tag_places-places.result.now c.index-places-0.result place (omega (arith, one)) refl) in
    let well = tags_well world.files.fileset (fileset_in (parts_of world c.args.list.now.list) r.0 r.1) r.3 place.home has c.add_tag_page.new.self.list c.in_ok-add_tag_page.ensures.ok c.in_ok-add_tag_page.ensures.entries in
    (r.0, record { together = well.together; listed = well.listed })
