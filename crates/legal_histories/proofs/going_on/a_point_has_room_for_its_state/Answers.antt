use Rattle.legal_histories.proofs.RoomLemmas.{comes_with_entries, comes_with_room}
use Rattle.legal_histories.proofs.going_on.a_point_has_room_for_its_state.Goals as goal

pub returns-clause-answered : goal.returns-clause-answered
returns-clause-answered c = comes_with_entries

pub returns-clause-room : goal.returns-clause-room
returns-clause-room c = comes_with_room
