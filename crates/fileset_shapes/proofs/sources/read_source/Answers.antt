use Rattle.fileset_shapes.proofs.ReadHomes.{source_read}
use Rattle.fileset_shapes.proofs.sources.read_source.Goals as goal

pub returns-in_ok-look_at_chain-in-Some : goal.returns-in_ok-look_at_chain-in-Some
returns-in_ok-look_at_chain-in-Some g c =
    source_read (g.M.MetaPages.pages c.args.pages.now) c.args.source.now c.in-Some.at c.read_file_map.result c.in-Some.is c.requires c.in_ok-look_at_chain-in-Some.ensures c.read_file_map.ensures
