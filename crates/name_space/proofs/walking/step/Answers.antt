use Rattle.std.proofs.Common.{rules, ◌≡◌, ◌∙◌, ap, sym, get_or}
use Rattle.plain_program.specs.domain_base.declared.place.Kind.TheVariants.{Directory}
use Rattle.directory_rows.specs.directory_pages.Rows.{found}
use Rattle.directory_rows.specs.Directory.{rows_in}
use Rattle.plain_program.specs.fileset_values.Orders.{Name}
use Rattle.name_space.proofs.Ways.{has_kind, has_none, next_led, next_lost, next_way, refusal_there}
use Rattle.name_space.proofs.walking.step.Goals as goal

pub find_row-requires : goal.find_row-requires
find_row-requires g c = c.requires.names.1.directories c.args.dir c.requires.way.there

pub returns-in-None : goal.returns-in-None
returns-in-None g c = λ slot names clear.
    let files = g.S.BitfileSet.files c.args.set.now in
    let name : Name = c.index-as_slice-count.result in
    let is : name ≡ get_or c.args.path.now c.args.count name = c.index-as_slice-count.is ∙ ap (λ p. get_or p c.args.count name) c.as_slice.ensures in
    let row = ap (λ n. found n (rows_in files c.args.dir)) (sym c.as_slice-2.ensures) ∙ sym c.find_row.ensures in
    next_lost files slot names c.args.path.now c.args.count c.args.dir name c.requires.within c.requires.way is clear (row ∙ c.in-None.is)

pub returns-in-Some-default-File : goal.returns-in-Some-default-File
returns-in-Some-default-File g c = λ slot names clear.
    let files = g.S.BitfileSet.files c.args.set.now in
    let name : Name = c.index-as_slice-count.result in
    let is : name ≡ get_or c.args.path.now c.args.count name = c.index-as_slice-count.is ∙ ap (λ p. get_or p c.args.count name) c.as_slice.ensures in
    let row = ap (λ n. found n (rows_in files c.args.dir)) (sym c.as_slice-2.ensures) ∙ sym c.find_row.ensures in
    let tag = c.in-Some-default-File.field-0-0 in
    next_led files slot names c.args.path.now c.args.count c.args.dir name c.requires.within c.requires.way is clear tag c.in-Some-default-File.field-0-1 (row ∙ c.in-Some-default-File.is)
    ∙ ap (λ of. refusal_there of (files tag)) c.in-Some-default-File.field-0-1-is

pub returns-in-Some : goal.returns-in-Some
returns-in-Some g c = λ slot names clear.
    let files = g.S.BitfileSet.files c.args.set.now in
    let name : Name = c.index-as_slice-count.result in
    let is : name ≡ get_or c.args.path.now c.args.count name = c.index-as_slice-count.is ∙ ap (λ p. get_or p c.args.count name) c.as_slice.ensures in
    let row = ap (λ n. found n (rows_in files c.args.dir)) (sym c.as_slice-2.ensures) ∙ sym c.find_row.ensures ∙ c.in-Some-default-Directory.is in
    let tag = c.in-Some-default-Directory.tag in
    let has = has_kind (files tag) c.in-Some.field-0 (sym c.kind_of.ensures ∙ c.in-Some.is) in (
      next_led files slot names c.args.path.now c.args.count c.args.dir name c.requires.within c.requires.way is clear tag Directory (search (rules, row)) ∙ ap (refusal_there Directory) has.1,
      next_way files slot names c.args.path.now c.args.count c.args.dir name c.requires.within c.requires.way is clear tag has.0 (search (rules, row)) has.1,
    )

pub returns-in-None-kind_of : goal.returns-in-None-kind_of
returns-in-None-kind_of g c = λ slot names clear.
    let files = g.S.BitfileSet.files c.args.set.now in
    let name : Name = c.index-as_slice-count.result in
    let is : name ≡ get_or c.args.path.now c.args.count name = c.index-as_slice-count.is ∙ ap (λ p. get_or p c.args.count name) c.as_slice.ensures in
    let row = ap (λ n. found n (rows_in files c.args.dir)) (sym c.as_slice-2.ensures) ∙ sym c.find_row.ensures ∙ c.in-Some-default-Directory.is in
    let tag = c.in-Some-default-Directory.tag in
    next_led files slot names c.args.path.now c.args.count c.args.dir name c.requires.within c.requires.way is clear tag Directory (search (rules, row))
    ∙ ap (refusal_there Directory) (has_none (files tag) (sym c.kind_of.ensures ∙ c.in-None-kind_of.is))
