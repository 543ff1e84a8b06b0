use Rattle.member_moves.proofs.Writing.{writes_of-alone, writes_of-from, writes_of-to}
use Rattle.member_moves.proofs.move_laws.moving_pages_are_written_twice.Goals as goal

pub returns-clause-from : goal.returns-clause-from
returns-clause-from c = writes_of-from

pub returns-clause-to : goal.returns-clause-to
returns-clause-to c = writes_of-to

pub returns-clause-alone : goal.returns-clause-alone
returns-clause-alone c = writes_of-alone
