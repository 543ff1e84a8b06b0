use Rattle.std.proofs.Common.{◌≡◌, ◌∙◌, ℕ, true, List, ap}
use Rattle.std.specs.Option.{is_some}
use Rattle.std.proofs.lemmas.Bool.{both_ways}
use Rattle.std.proofs.lemmas.Result.{on_ok_weaker}
use Rattle.directory_pages.specs.Rows.{is_named}
use Rattle.directory_rows.specs.declared.look.Place.{Place}
use Rattle.directory_rows.specs.Directory.{row_pages, rows_at, rows_in}
use Rattle.directory_rows.specs.Places.{IsPlaceOf}
use Rattle.directory_rows.proofs.Changed.{removes_row, take_index}
use Rattle.directory_rows.proofs.Entered.{named_found}
use Rattle.directory_rows.proofs.Looking.{none_all}
use Rattle.directory_rows.proofs.change.remove_row.Goals as goal

on_page : (name : List ℕ) (pages : List (List ℕ)) (place : Place) → IsPlaceOf name pages place → is_named name (rows_at place.page pages) ≡ true
on_page name pages place at = named_found name (rows_at place.page pages) ∙ ap is_some at.here

pub returns-in_default-clause-ok : goal.returns-in_default-clause-ok
returns-in_default-clause-ok g c =
    let old = g.S.BitfileSet.files c.args.set.now in
    let name = c.args.name.now in
    absurd (both_ways (is_named name (rows_in old c.args.dir)) (named_found name (rows_in old c.args.dir) ∙ ap is_some (none_all name (row_pages old c.args.dir) c.in_default.ensures)) c.requires.there)

pub take_row-requires-clause-there : goal.take_row-requires-clause-there
take_row-requires-clause-there g c =
    let old = g.S.BitfileSet.files c.args.set.now in
    on_page c.args.name.now (row_pages old c.args.dir) c.in-Some.place c.in-Some.ensures

pub forget_row-requires-clause-index : goal.forget_row-requires-clause-index
forget_row-requires-clause-index g c =
    let old = g.S.BitfileSet.files c.args.set.now in
    let mid = g.S.BitfileSet.files c.take_row.new.set in
    take_index c.args.dir c.args.name.now c.in-Some.place.page old mid c.requires.good (on_page c.args.name.now (row_pages old c.args.dir) c.in-Some.place c.in-Some.ensures) c.in_ok-take_row.ensures.ok c.name_hash-hash.result c.name_hash-hash.ensures

pub returns-clause-rest : goal.returns-clause-rest
returns-clause-rest g c = g.met.S.BitfileSet.rest_joins c.args.set.now c.take_row.new.set c.forget_row.new.set c.in_ok-take_row.ensures.rest c.forget_row.ensures.rest

pub returns-clause-ok : goal.returns-clause-ok
returns-clause-ok g c =
    let old = g.S.BitfileSet.files c.args.set.now in
    let mid = g.S.BitfileSet.files c.take_row.new.set in
    let new = g.S.BitfileSet.files c.forget_row.new.set in
    on_ok_weaker c.forget_row.result (removes_row c.args.dir c.args.name.now c.in-Some.place.page old mid c.requires.good (on_page c.args.name.now (row_pages old c.args.dir) c.in-Some.place c.in-Some.ensures) c.in_ok-take_row.ensures.ok new) c.forget_row.ensures.ok
