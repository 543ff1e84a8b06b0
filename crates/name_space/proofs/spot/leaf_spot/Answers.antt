use Rattle.std.proofs.Common.{◌==◌, ◌∙◌, [], ◌∷◌, length}
use Rattle.directory_rows.specs.Directory.{rows_in}
use Rattle.plain_program.specs.fileset_model.Paths.{target_refusal}
use Rattle.name_space.specs.Changes.{leaf_checks}
use Rattle.name_space.proofs.LeafChecks.{leaf_checked, leaf_good, leaf_kind, leaf_rows}
use Rattle.name_space.proofs.Spots.{led_path, passed_more}
use Rattle.name_space.proofs.spot.leaf_spot.Goals as goal

pub check_leaf-requires : goal.check_leaf-requires
check_leaf-requires g c =
    let files = g.S.BitfileSet.files c.args.set.now in
    let has = c.requires.names in
    let spot = c.in-Ok.spot in
    let at = c.in-Ok.ensures has.0 has.1 in
    leaf_good files has.0 has.1 c.args.path.now c.requires.some spot.tag spot.kind (led_path files c.args.path.now c.requires.some spot.dir at.1 ∙ at.2)

pub returns-in-Ok-check_leaf-clause-spot : goal.returns-in-Ok-check_leaf-clause-spot
returns-in-Ok-check_leaf-clause-spot g c = λ slot original.
    let files = g.S.BitfileSet.files c.args.set.now in
    let path = c.args.path.now in
    let spot = c.in-Ok.spot in
    let at = c.in-Ok.ensures slot original in
    let led = led_path files path c.requires.some spot.dir at.1 ∙ at.2 in (
      passed_more (target_refusal slot path ∷ []) (leaf_checks c.args.of path slot) at.0
          ∙ leaf_checked files slot original path c.requires.some spot.tag spot.kind led c.args.of ∙ c.in-Ok-check_leaf.ensures,
      at.1,
      at.2,
    )

pub returns-in-Ok-check_leaf-clause-kind : goal.returns-in-Ok-check_leaf-clause-kind
returns-in-Ok-check_leaf-clause-kind g c =
    let files = g.S.BitfileSet.files c.args.set.now in
    leaf_kind c.args.of c.in-Ok.spot.kind (length (rows_in files c.in-Ok.spot.tag) == 0) c.in-Ok-check_leaf.ensures

pub returns-in-Ok-check_leaf-clause-bare : goal.returns-in-Ok-check_leaf-clause-bare
returns-in-Ok-check_leaf-clause-bare g c =
    let files = g.S.BitfileSet.files c.args.set.now in
    let path = c.args.path.now in
    let has = c.requires.names in
    let spot = c.in-Ok.spot in
    let at = c.in-Ok.ensures has.0 has.1 in
    let led = led_path files path c.requires.some spot.dir at.1 ∙ at.2 in
    leaf_rows files has.0 has.1 path c.requires.some spot.tag spot.kind led (g.met.S.BitfileSet.sound c.args.set.now spot.tag) c.args.of c.in-Ok-check_leaf.ensures

pub returns-in-Err-check_leaf-clause-spot : goal.returns-in-Err-check_leaf-clause-spot
returns-in-Err-check_leaf-clause-spot g c = λ slot original.
    let files = g.S.BitfileSet.files c.args.set.now in
    let path = c.args.path.now in
    let spot = c.in-Ok.spot in
    let at = c.in-Ok.ensures slot original in
    let led = led_path files path c.requires.some spot.dir at.1 ∙ at.2 in
    passed_more (target_refusal slot path ∷ []) (leaf_checks c.args.of path slot) at.0
    ∙ leaf_checked files slot original path c.requires.some spot.tag spot.kind led c.args.of ∙ c.in-Err-check_leaf.ensures
