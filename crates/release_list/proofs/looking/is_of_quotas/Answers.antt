use Rattle.std.proofs.Common.{◌∙◌, not, ap}
use Rattle.release_list.proofs.Standings.{file_if}
use Rattle.release_list.proofs.looking.is_of_quotas.Goals as goal

pub returns-clause-file : goal.returns-clause-file
returns-clause-file g c = λ chain stands no_quotas.
    file_if (g.M.MetaPages.pages c.args.pages.now) c.args.at.now chain c.find_record.result c.find_record.ensures stands (c.is_none.ensures ∙ ap not no_quotas)
