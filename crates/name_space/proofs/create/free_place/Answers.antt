use Rattle.std.proofs.Common.{◌∙◌, ap, sym, [], length, ◌-◌, arith}
use Rattle.std.proofs.lemmas.List.{get_or_default}
use Rattle.directory_rows.specs.directory_pages.Rows.{found}
use Rattle.directory_rows.specs.Directory.{rows_in}
use Rattle.name_space.specs.Changes.{last_name}
use Rattle.name_space.proofs.Targets.{free_checked}
use Rattle.name_space.proofs.create.free_place.Goals as goal

pub returns-in-None : goal.returns-in-None
returns-in-None g c = λ slot names.
    let files = g.S.BitfileSet.files c.args.set.now in
    let path = c.args.path.now in
    let dir = c.in-Ok.dir in
    let walked = c.in-Ok.ensures slot names in
    let row = ap (λ n. found n (rows_in files dir)) (sym c.last_name.ensures) ∙ sym c.find_row.ensures ∙ c.in-None.is in (
      free_checked files slot names path (length path - 1) dir (last_name path) (omega (arith, c.requires.some)) walked.1 (get_or_default path (length path - 1) [] (last_name path) (omega (arith, c.requires.some))) walked.0 _ row,
      walked.1,
      row,
    )

pub returns-in-Some : goal.returns-in-Some
returns-in-Some g c = λ slot names.
    let files = g.S.BitfileSet.files c.args.set.now in
    let path = c.args.path.now in
    let dir = c.in-Ok.dir in
    let walked = c.in-Ok.ensures slot names in
    let row = ap (λ n. found n (rows_in files dir)) (sym c.last_name.ensures) ∙ sym c.find_row.ensures ∙ c.in-Some.is in
    free_checked files slot names path (length path - 1) dir (last_name path) (omega (arith, c.requires.some)) walked.1 (get_or_default path (length path - 1) [] (last_name path) (omega (arith, c.requires.some))) walked.0 _ row
