use Rattle.domain_bringing.proofs.bringing.look_at_filesets.Goals as goal

pub read_filesets-requires : goal.read_filesets-requires
read_filesets-requires c = record { named = c.requires.good.named; no_fault = c.requires.has.no_fault; all = c.requires.has.all }

pub returns : goal.returns
returns c = record {
  good = c.requires.good;
  has = c.requires.has;
  all = c.in_ok-_all._all;
  reads = c.in_ok-_all.ensures.filesets;
}
