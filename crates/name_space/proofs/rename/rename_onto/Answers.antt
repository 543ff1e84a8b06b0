use Rattle.std.proofs.Common.{◌≡◌, rules, ◌∙◌, refl, sym}
use Rattle.plain_program.specs.fileset_model.Apply.{rename_checks}
use Rattle.name_space.proofs.Faults.{faulted, unrefused}
use Rattle.name_space.proofs.Originals.{tags_differ}
use Rattle.name_space.proofs.RenameChecks.{two_checks_are}
use Rattle.name_space.proofs.RenamedNames.{renames_none}
use Rattle.name_space.proofs.rename.rename_onto.Goals as goal

pub returns-then-eq-clause-ok : goal.returns-then-eq-clause-ok
returns-then-eq-clause-ok g c = λ slot original.
    let old = g.S.BitfileSet.files c.args.set.now in
    let other = c.args.other in
    renames_none old old c.args.path.now c.args.to.now c.args.spot other.dir c.requires.looked slot original other.tag other.kind c.requires.taken (search rules) refl

pub returns-in-Err-clause-err : goal.returns-in-Err-clause-err
returns-in-Err-clause-err g c = (
  refl,
  λ slot original.
      let old = g.S.BitfileSet.files c.args.set.now in
      let other = c.args.other in
      two_checks_are old c.args.path.now c.args.to.now c.args.spot other.dir c.requires.looked slot original other.tag other.kind c.requires.taken (tags_differ other.tag c.args.spot.tag (sym c.if-eq.ensures)) ∙ c.in-Err.ensures.checked slot original,
)

pub returns-in-Err-replace-clause-err : goal.returns-in-Err-replace-clause-err
returns-in-Err-replace-clause-err g c =
    let old = g.S.BitfileSet.files c.args.set.now in
    let new = g.S.BitfileSet.files c.replace.new.set in
    let path = c.args.path.now in
    let to = c.args.to.now in
    let other = c.args.other in
    faulted (rename_checks path to) old new (g.S.BitfileSet.missed c.args.set.now) (g.S.BitfileSet.missed c.replace.new.set) c.in-Err-replace.fault c.from.result c.from.ensures c.in-Err-replace.ensures.no_page
    (λ slot original. two_checks_are old path to c.args.spot other.dir c.requires.looked slot original other.tag other.kind c.requires.taken (tags_differ other.tag c.args.spot.tag (sym c.if-eq.ensures)) ∙ c.in-Ok.ensures.checked slot original)

pub returns-in-Err-replace-clause-refused : goal.returns-in-Err-replace-clause-refused
returns-in-Err-replace-clause-refused g c = unrefused (c.replace.new.set ≡ c.args.set.now) c.in-Err-replace.fault c.from.result c.from.ensures
