use Rattle.std.proofs.Common.{◌∙◌, sym}
use Rattle.slot_files.proofs.Indexed.{reads_none, reads_one}
use Rattle.slot_files.proofs.indexes.read_index.Goals as goal

pub returns-in_default : goal.returns-in_default
returns-in_default g c = reads_none (g.M.MetaPages.pages c.args.pages.now) c.args.file.now (λ cells links. sym c.in_default.is ∙ c.index_said.ensures cells links)

pub returns : goal.returns
returns g c =
    reads_one (g.M.MetaPages.pages c.args.pages.now) c.args.file.now c.in-Some.said c.may_have_index.result c.in_ok-look_at_chain.ensures (λ cells links. sym c.in-Some.is ∙ c.index_said.ensures cells links) c.may_have_index.ensures
