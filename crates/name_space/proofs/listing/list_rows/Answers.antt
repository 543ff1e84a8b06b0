use Rattle.std.proofs.Common.{◌≡◌, ◌∙◌, IfOk, Ok, Err, map}
use Rattle.plain_program.specs.fileset_model.declared.fileset.FilesetSlot.{FilesetSlot}
use Rattle.name_space.specs.Lists.{AreRowsOf, item_of}
use Rattle.name_space.specs.Names.{Names}
use Rattle.name_space.proofs.Listed.{are_rows}
use Rattle.name_space.proofs.listing.list_rows.Goals as goal

pub returns : goal.returns
returns g c =
    let files = g.S.BitfileSet.files c.args.set.now in
    let dir = c.args.dir in
    let rows = c.in_ok-rows.rows in
    elim c.items_of.result as (λ r. IfOk r (λ list. list ≡ map item_of rows) → IfOk r (λ list. (slot : FilesetSlot) → Names files slot → AreRowsOf files slot dir list)) [
      | Ok list ↦ λ is slot names path shown led.
          is ∙ are_rows files slot dir rows names c.requires.live (names.directories dir c.requires.live).names c.in_ok-rows.ensures.same c.in_ok-rows.ensures.sorted path shown led
      | Err fault ↦ λ is. is
    ] c.items_of.ensures
