use Rattle.std.proofs.Common.{◌≡◌, ◌∙◌, ap, sym, get_or}
use Rattle.directory_rows.specs.directory_pages.Rows.{found}
use Rattle.directory_rows.specs.Directory.{rows_in}
use Rattle.plain_program.specs.fileset_values.Orders.{Name}
use Rattle.name_space.proofs.Targets.{target_lost, target_there}
use Rattle.name_space.proofs.walking.last_row.Goals as goal

pub find_row-requires : goal.find_row-requires
find_row-requires g c = c.requires.names.1.directories c.args.dir c.requires.way.there

pub returns-in-Some : goal.returns-in-Some
returns-in-Some g c = λ slot names clear.
    let files = g.S.BitfileSet.files c.args.set.now in
    let name : Name = c.index-as_slice-last.result in
    let is : name ≡ get_or c.args.path.now c.args.last name = c.index-as_slice-last.is ∙ ap (λ p. get_or p c.args.last name) c.as_slice.ensures in
    let row = ap (λ n. found n (rows_in files c.args.dir)) (sym c.as_slice-2.ensures) ∙ sym c.find_row.ensures ∙ c.in-Some.is in
    target_there files slot names c.args.path.now c.args.last c.args.dir name c.requires.last c.requires.way is clear c.in-Some.led row

pub returns-in-None : goal.returns-in-None
returns-in-None g c = λ slot names clear.
    let files = g.S.BitfileSet.files c.args.set.now in
    let name : Name = c.index-as_slice-last.result in
    let is : name ≡ get_or c.args.path.now c.args.last name = c.index-as_slice-last.is ∙ ap (λ p. get_or p c.args.last name) c.as_slice.ensures in
    let row = ap (λ n. found n (rows_in files c.args.dir)) (sym c.as_slice-2.ensures) ∙ sym c.find_row.ensures ∙ c.in-None.is in
    target_lost files slot names c.args.path.now c.args.last c.args.dir name c.requires.last c.requires.way is clear row
