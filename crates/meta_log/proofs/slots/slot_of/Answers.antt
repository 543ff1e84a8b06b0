use Rattle.std.proofs.Common.{◌≡◌, List, false, subst}
use Rattle.std.proofs.lemmas.Slice.{between_is}
use Rattle.std.specs.List.{list_any}
use Rattle.log_ring.specs.page_store.Pages.{same_home}
use Rattle.log_ring.specs.Images.{homes_of}
use Rattle.log_ring.specs.declared.image.PageImage.{PageImage}
use Rattle.meta_log.proofs.slots.slot_of.Goals as goal

pub returns-in-None-clause-none : goal.returns-in-None-clause-none
returns-in-None-clause-none c = subst (λ (l : List PageImage). list_any (same_home c.args.home.now) (homes_of l) ≡ false) (between_is c.args.slots.now c.args.first c.args.end) c.in-None.ensures.none
