use Rattle.std.proofs.Common.{◌∙◌, refl}
use Rattle.page_cache.proofs.Changed.{same_page}
use Rattle.page_cache.proofs.cache.PageCache.frame.Goals as goal

pub returns : goal.returns
returns c = ((refl, λ _. tt, c.touch.ensures), record { ends = tt; page = c.page_at.ensures ∙ same_page c.args.home c.args.self.now c.touch.new.self c.touch.ensures })
