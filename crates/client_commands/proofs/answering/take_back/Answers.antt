use Rattle.std.proofs.Common.{sym}
use Rattle.file_commands.proofs.OfDomainMemory.KeptStands.{stands_still}
use Rattle.client_commands.proofs.answering.take_back.Goals as goal

pub returns-clause-none : goal.returns-clause-none
returns-clause-none g c = record {
  settled = c.discard.ensures.settled;
  same = c.discard.ensures.history;
  stands = λ all stands. stands_still c.args.domain.memory c.discard.new.self.memory all c.discard.ensures.kept c.discard.ensures.books stands;
}

pub returns-clause-was : goal.returns-clause-was
returns-clause-was g c = λ all stands. stands_still c.discard.new.self.memory c.args.domain.memory all (sym c.discard.ensures.kept) (sym c.discard.ensures.books) stands
