use Rattle.index_row_faults.specs.page_ways.Frame.{frame_in}
use Rattle.slot_files.proofs.Listed.{UpTo}
use Rattle.slot_files.proofs.SaidPlaces.{IsMemberHome}
use Rattle.slot_files.proofs.members.member_homes.Given as goal

abbrev pub invariant-loop-page : goal.invariant-loop-page
invariant-loop-page l = UpTo (IsMemberHome l.said (frame_in l.frame)) l.homes.items l.page
