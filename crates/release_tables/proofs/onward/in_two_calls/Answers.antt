use Rattle.std.proofs.Common.{subst, sym}
use Rattle.release_steps.specs.release_list.Listing.{Listing}
use Rattle.release_tables.specs.Called.{parts_of}
use Rattle.release_tables.specs.Stood.{IsStood}
use Rattle.release_tables.proofs.WentOn.{from_start, is_stood}
use Rattle.release_tables.proofs.onward.in_two_calls.Goals as goal

pub go_on-requires : goal.go_on-requires
go_on-requires c =
    let world = c.args.world.now in
    from_start world.files.fileset (parts_of world c.start_over.new.self.list) c.start_over.new.self.cursor c.start_over.ensures.cursor
    (subst (λ (l : Listing). IsStood world.files.fileset (parts_of world l)) (sym c.start_over.ensures.list) c.requires)

pub returns : goal.returns
returns c =
    let world = c.go_on-2.new.world in
    let list = c.go_on-2.new.list in
    is_stood world.files.fileset (parts_of world list.list) list.cursor c.in_ok-two.ensures
