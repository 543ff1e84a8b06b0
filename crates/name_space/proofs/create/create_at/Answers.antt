use Rattle.std.proofs.Common.{◌≡◌, rules, ◌^◌, ◌<◌, subst}
use Rattle.directory_rows.specs.page_store.Bitfiles.{new_file}
use Rattle.name_space.specs.Changes.{IsMade, free_checks}
use Rattle.name_space.proofs.CreatedNames.{creates}
use Rattle.name_space.proofs.Faults.{faulted, unrefused}
use Rattle.name_space.proofs.Spots.{has_names}
use Rattle.name_space.proofs.create.create_at.Goals as goal

pub returns-in-Ok-make_row-clause-ok : goal.returns-in-Ok-make_row-clause-ok
returns-in-Ok-make_row-clause-ok g c = λ slot original.
    let old = g.S.BitfileSet.files c.args.set.now in
    let new = g.S.BitfileSet.files c.make_row.new.set in
    let dir = c.in-Ok.dir in
    let tag = c.in-Ok-make_row.tag in
    let low : tag.seq < 2 ^ 16 = search rules in
    let place = c.in-Ok.ensures slot original.names in
    creates old new slot original c.args.path.now c.requires.some dir place.1 place.2 place.0 tag c.args.kind c.args.uid c.args.gid low
    (subst (λ n. IsMade dir n (new_file c.args.kind c.args.uid c.args.gid) old new tag) c.last_name.ensures c.in-Ok-make_row.ensures.ok)

pub free_place-requires-clause-names : goal.free_place-requires-clause-names
free_place-requires-clause-names g c = has_names (g.S.BitfileSet.files c.args.set.now) c.requires.names

pub returns-in-Err-make_row-clause-err : goal.returns-in-Err-make_row-clause-err
returns-in-Err-make_row-clause-err g c =
    faulted (free_checks c.args.path.now) (g.S.BitfileSet.files c.args.set.now) (g.S.BitfileSet.files c.make_row.new.set) (g.S.BitfileSet.missed c.args.set.now) (g.S.BitfileSet.missed c.make_row.new.set) c.in-Err-make_row.fault c.from.result c.from.ensures c.in-Err-make_row.ensures.no_page
    (λ slot original. (c.in-Ok.ensures slot original.names).0)

pub returns-in-Err-make_row-clause-refused : goal.returns-in-Err-make_row-clause-refused
returns-in-Err-make_row-clause-refused g c = unrefused (c.make_row.new.set ≡ c.args.set.now) c.in-Err-make_row.fault c.from.result c.from.ensures
