use Rattle.std.proofs.Common.{[], ◌∷◌, refl}
use Rattle.tag_dirs.proofs.InPlace.{end_set}
use Rattle.tag_dirs.proofs.NewPage.{zeros_name_none}
use Rattle.tag_dirs.proofs.entries.lead_nowhere.Goals as goal

pub returns-clause-ends : goal.returns-clause-ends
returns-clause-ends g c =
    end_set (g.M.MetaPages.pages c.args.pages.now) (g.M.MetaPages.pages c.set.new.self) c.args.home.now c.args.next.now (0 ∷ 0 ∷ 0 ∷ 0 ∷ 0 ∷ 0 ∷ 0 ∷ 0 ∷ []) refl zeros_name_none c.requires c.set.ensures.value
