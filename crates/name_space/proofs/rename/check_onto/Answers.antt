use Rattle.std.proofs.Common.{◌≡◌, ◌==◌, ◌∙◌, false, length, sym, subst}
use Rattle.directory_rows.specs.Directory.{rows_in}
use Rattle.plain_program.specs.fileset_model.Paths.{begins_with}
use Rattle.plain_program.specs.Stops.{Refuses}
use Rattle.name_space.specs.Changes.{leaf_refusal}
use Rattle.name_space.proofs.LeafChecks.{leaf_checked, leaf_good, leaf_rows}
use Rattle.name_space.proofs.RenameChecks.{begins_is, on_passed, replaced_checks, taken_led}
use Rattle.name_space.proofs.rename.check_onto.Goals as goal

pub check_leaf-requires : goal.check_leaf-requires
check_leaf-requires g c =
    let files = g.S.BitfileSet.files c.args.set.now in
    let path = c.args.path.now in
    let to = c.args.to.now in
    let other = c.args.other in
    let has = c.requires.looked.names in
    leaf_good files has.0 has.1 to c.requires.looked.some_to other.tag other.kind
    (taken_led files path to c.args.spot other.dir c.requires.looked has.0 has.1 other.tag other.kind c.requires.taken)

pub returns-clause-checked : goal.returns-clause-checked
returns-clause-checked g c = λ slot original.
    let files = g.S.BitfileSet.files c.args.set.now in
    let path = c.args.path.now in
    let to = c.args.to.now in
    let spot = c.args.spot in
    let other = c.args.other in
    let beside : begins_with to path ≡ false = begins_is c.as_slice.result.now c.as_slice-2.result.now path to c.starts_with.result false c.starts_with.ensures.value c.as_slice.ensures c.as_slice-2.ensures c.if-starts_with.false in
    let led = taken_led files path to spot other.dir c.requires.looked slot original other.tag other.kind c.requires.taken in
    subst (λ r. Refuses r c.check_leaf.result)
    (sym (replaced_checks files path to spot other.dir c.requires.looked slot original other.tag other.kind c.requires.taken beside
    ∙ leaf_checked files slot original to c.requires.looked.some_to other.tag other.kind led spot.kind))
    c.check_leaf.ensures

pub returns-clause-bare : goal.returns-clause-bare
returns-clause-bare g c =
    let files = g.S.BitfileSet.files c.args.set.now in
    let path = c.args.path.now in
    let to = c.args.to.now in
    let spot = c.args.spot in
    let other = c.args.other in
    let has = c.requires.looked.names in
    let led = taken_led files path to spot other.dir c.requires.looked has.0 has.1 other.tag other.kind c.requires.taken in
    on_passed (leaf_refusal spot.kind other.kind (length (rows_in files other.tag) == 0)) c.check_leaf.result c.check_leaf.ensures
    (leaf_rows files has.0 has.1 to c.requires.looked.some_to other.tag other.kind led (g.met.S.BitfileSet.sound c.args.set.now other.tag) spot.kind)
