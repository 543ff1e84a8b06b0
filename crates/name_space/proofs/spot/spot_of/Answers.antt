use Rattle.std.proofs.Common.{◌∙◌, ap, sym}
use Rattle.directory_rows.specs.directory_pages.Rows.{found}
use Rattle.directory_rows.specs.Directory.{rows_in}
use Rattle.name_space.proofs.Spots.{has_names, spot_lost, spot_there}
use Rattle.name_space.proofs.spot.spot_of.Goals as goal

pub walk-requires-clause-names : goal.walk-requires-clause-names
walk-requires-clause-names g c = has_names (g.S.BitfileSet.files c.args.set.now) c.requires.names

pub find_row-requires : goal.find_row-requires
find_row-requires g c =
    let has = c.requires.names in
    has.1.names.directories c.in-Ok.dir (c.in-Ok.ensures has.0 has.1.names).1.there

pub returns-in-Some : goal.returns-in-Some
returns-in-Some g c = λ slot original.
    let files = g.S.BitfileSet.files c.args.set.now in
    let path = c.args.path.now in
    let dir = c.in-Ok.dir in
    let walked = c.in-Ok.ensures slot original.names in
    let row = ap (λ n. found n (rows_in files dir)) (sym c.last_name.ensures) ∙ sym c.find_row.ensures ∙ c.in-Some.is in
    (spot_there files slot original path c.requires.some dir walked.0 walked.1 _ row, walked.1, row)

pub returns-in-None : goal.returns-in-None
returns-in-None g c = λ slot original.
    let files = g.S.BitfileSet.files c.args.set.now in
    let path = c.args.path.now in
    let dir = c.in-Ok.dir in
    let walked = c.in-Ok.ensures slot original.names in
    let row = ap (λ n. found n (rows_in files dir)) (sym c.last_name.ensures) ∙ sym c.find_row.ensures ∙ c.in-None.is in
    spot_lost files slot original path c.requires.some dir walked.0 walked.1 row
