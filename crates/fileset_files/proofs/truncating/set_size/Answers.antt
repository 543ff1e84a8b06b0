use Rattle.std.proofs.Common.{◌∙◌, ◌<◌, ◌^◌, IfSome, None, Option, ℕ, ap, rules, subst, sym}
use Rattle.file_chains.specs.metadata_cells.Cell.{Cell}
use Rattle.file_chains.specs.metadata_cells.Chain.{StandsAt}
use Rattle.fileset_files.specs.Files.{is_first_kind}
use Rattle.fileset_files.specs.Truncation.{resized, says_truncated}
use Rattle.file_chains.specs.cell_records.Records.{Allowed}
use Rattle.fileset_files.proofs.Room.{allowed_found}
use Rattle.fileset_files.proofs.SetFirst.{map_ok}
use Rattle.fileset_files.proofs.Truncated.{kind_now, resized_allowed, size_said, trim_said}
use Rattle.fileset_files.proofs.truncating.set_size.Goals as goal

pub set_trim-requires-clause-kind : goal.set_trim-requires-clause-kind
set_trim-requires-clause-kind g c =
    kind_now c.args.size c.args.lowered.now c.requires.room.cell c.args.was.now c.with_size-value.result (c.requires.was c.requires.room.cell c.requires.room.stands) c.with_size-value.ensures

pub set_trim-requires-clause-allowed : goal.set_trim-requires-clause-allowed
set_trim-requires-clause-allowed g c =
    let room = c.requires.room in
    let has = c.requires.was room.cell room.stands in
    let low : IfSome c.args.lowered.now (λ k. k < 2 ^ 32) = subst (λ (o : Option ℕ). IfSome o (λ k. k < 2 ^ 32)) (sym c.in-Some.is) (let less : c.in-Some.keep < 2 ^ 32 = search rules in less) in
    subst Allowed (sym c.with_size-value.ensures) (resized_allowed c.args.size c.args.lowered.now c.args.was.now c.ranges.size.fits low (allowed_found 1 room.cell.records c.args.was.now has room.stands.is.well_formed.allowed))

pub set_first-requires-clause-kind : goal.set_first-requires-clause-kind
set_first-requires-clause-kind g c =
    ap is_first_kind (kind_now c.args.size c.args.lowered.now c.requires.room.cell c.args.was.now c.with_size-value.result (c.requires.was c.requires.room.cell c.requires.room.stands) c.with_size-value.ensures)

pub set_first-requires-clause-allowed : goal.set_first-requires-clause-allowed
set_first-requires-clause-allowed g c =
    let room = c.requires.room in
    let has = c.requires.was room.cell room.stands in
    let low : IfSome c.args.lowered.now (λ k. k < 2 ^ 32) = subst (λ (o : Option ℕ). IfSome o (λ k. k < 2 ^ 32)) (sym c.in-None.is) tt in
    subst Allowed (sym c.with_size-value.ensures) (resized_allowed c.args.size c.args.lowered.now c.args.was.now c.ranges.size.fits low (allowed_found 1 room.cell.records c.args.was.now has room.stands.is.well_formed.allowed))

pub returns-in-Some-clause-ok : goal.returns-in-Some-clause-ok
returns-in-Some-clause-ok g c = λ cell stands.
    let new = g.M.MetaPages.pages c.set_trim.new.pages in
    let has = c.requires.was cell stands in
    let is = c.with_size-value.ensures ∙ ap (λ o. resized c.args.size o c.args.was.now) c.in-Some.is in
    map_ok
    (λ now. subst (λ (o : Option ℕ). StandsAt new c.args.at.now (says_truncated c.args.size o cell)) (sym c.in-Some.is)
    (subst (λ (c2 : Cell). StandsAt new c.args.at.now c2) (trim_said c.args.size c.in-Some.keep cell c.args.was.now c.with_size-value.result has is) now))
    c.set_trim.result (c.set_trim.ensures.ok cell stands)

pub returns-in-None-clause-ok : goal.returns-in-None-clause-ok
returns-in-None-clause-ok g c = λ cell stands.
    let new = g.M.MetaPages.pages c.set_first.new.pages in
    let has = c.requires.was cell stands in
    let is = c.with_size-value.ensures ∙ ap (λ o. resized c.args.size o c.args.was.now) c.in-None.is in
    map_ok
    (λ now. subst (λ (o : Option ℕ). StandsAt new c.args.at.now (says_truncated c.args.size o cell)) (sym c.in-None.is)
    (subst (λ (c2 : Cell). StandsAt new c.args.at.now c2) (size_said c.args.size None cell c.args.was.now c.with_size-value.result has is) now))
    c.set_first.result (c.set_first.ensures.ok cell stands)
