use Rattle.std.proofs.Common.{[], refl}
use Rattle.release_steps.specs.release_list.Listing.{Listing}
use Rattle.release_tables.proofs.beside.made_in_both.Goals as goal

abbrev nothing : Listing
nothing = record { entries = []; tag_pages = [] }

pub make_beside-requires : goal.make_beside-requires
make_beside-requires c = (nothing, c.in_ok-two.ensures nothing (refl, refl))

pub make_beside-requires-2 : goal.make_beside-requires-2
make_beside-requires-2 c = (nothing, c.turned-two.ensures nothing (c.in_ok-first.ensures nothing (c.in_ok-two.ensures nothing (refl, refl))))

pub is_there-second_there-requires : goal.is_there-second_there-requires
is_there-second_there-requires c = (nothing, c.in_ok-second.ensures nothing (c.turned-two.ensures nothing (c.in_ok-first.ensures nothing (c.in_ok-two.ensures nothing (refl, refl)))))

pub is_there-requires : goal.is_there-requires
is_there-requires c = (nothing, c.turned-two-2.ensures nothing (c.in_ok-second.ensures nothing (c.turned-two.ensures nothing (c.in_ok-first.ensures nothing (c.in_ok-two.ensures nothing (refl, refl))))))
