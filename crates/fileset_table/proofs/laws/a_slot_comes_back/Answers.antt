use Rattle.std.proofs.Common.{List, refl, ap}
use Rattle.fileset_table.specs.declared.slot.SlotItem.{SlotItem}
use Rattle.fileset_table.proofs.Tried.{put_back}
use Rattle.fileset_table.proofs.laws.a_slot_comes_back.Goals as goal

pub returns : goal.returns
returns c = λ table number had item there. ap (λ (slots : List SlotItem). record table { slots = slots }) (put_back table.slots _ _ number item had refl there refl)
