use Rattle.file_chains.proofs.Chosen.{has_room}
use Rattle.file_chains.proofs.switching.switch_at.Goals as goal

pub set_record-requires-clause-room : goal.set_record-requires-clause-room
set_record-requires-clause-room g c =
    has_room (g.M.MetaPages.pages c.args.pages.now) c.args.at.now c.args.value.now c.switch_page.new.value c.requires.map c.in_ok-switch_page.ensures.ok.is_map c.in_ok-switch_page.ensures.ok.same_kind
