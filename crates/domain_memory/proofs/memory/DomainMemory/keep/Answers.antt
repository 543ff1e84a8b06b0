use Rattle.std.proofs.Common.{◌∙◌, refl, sym}
use Rattle.staged_pages.specs.Store.{pages_of}
use Rattle.domain_memory.proofs.ChangeKept.{asks_bitmaps, asks_bits, asks_once, asks_room, kept_settled, kept_stands}
use Rattle.domain_memory.proofs.GoingBack.{kept_goes_back}
use Rattle.domain_memory.proofs.GoneKept.{keeps_gone}
use Rattle.domain_memory.proofs.memory.DomainMemory.keep.Goals as goal

pub mark_changes-requires-clause-there : goal.mark_changes-requires-clause-there
mark_changes-requires-clause-there c = asks_bitmaps c.args.self.now c.requires.staged

pub mark_changes-requires-clause-said : goal.mark_changes-requires-clause-said
mark_changes-requires-clause-said c = asks_bits c.args.self.now c.requires.staged

pub put_on_list-requires-clause-room : goal.put_on_list-requires-clause-room
put_on_list-requires-clause-room c = asks_room c.args.self.now c.requires.staged

pub put_on_list-requires-clause-once : goal.put_on_list-requires-clause-once
put_on_list-requires-clause-once c = asks_once c.args.self.now c.requires.staged

pub returns-clause-stands : goal.returns-clause-stands
returns-clause-stands c = λ all may.
    kept_stands c.args.self.now _ c.mark_changes.new.pages all may.staged c.mark_changes.ensures.say c.mark_changes.ensures.change refl refl c.keep.ensures.before c.keep-2.ensures
    c.keep-3.ensures.same c.keep-3.ensures.settled c.keep_slots.ensures (c.start_over.ensures.list ∙ c.put_on_list.ensures.list) refl may

pub returns-clause-settled : goal.returns-clause-settled
returns-clause-settled c =
    kept_settled c.args.self.now _ (c.keep.ensures.before ∙ sym c.keep.ensures.pages) c.keep-2.ensures c.keep-3.ensures.settled c.keep_slots.ensures refl c.put_on_list.ensures.listed

pub returns-clause-back : goal.returns-clause-back
returns-clause-back c = kept_goes_back c.args.self.now _ c.requires.staged c.requires.back refl refl c.keep_slots.ensures

pub returns-clause-gone : goal.returns-clause-gone
returns-clause-gone c =
    keeps_gone c.args.self.now _ (pages_of c.mark_changes.new.pages) c.requires.staged c.mark_changes.ensures.change c.keep.ensures.pages c.keep_slots.ensures refl c.keep-3.ensures.same.cells
