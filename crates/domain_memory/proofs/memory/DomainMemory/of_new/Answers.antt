use Rattle.std.proofs.Common.{◌≡◌, ◌∙◌, refl, sym, ap, subst}
use Rattle.standing_laws.specs.page_store.Pages.{Pages}
use Rattle.standing_laws.specs.domain_standing.Marks.{IsMarked}
use Rattle.standing_laws.specs.domain_standing.Space.{AreCellsOf}
use Rattle.standing_laws.specs.domain_layout.Layout.{IsLayout, Layout}
use Rattle.standing_laws.specs.domain_layout.Owners.{frame_of}
use Rattle.standing_laws.specs.domain_layout.Reached.{Frame}
use Rattle.domain_making.specs.Making.{new_frame}
use Rattle.standing_laws.specs.filesets_reading.Good.{AreGood}
use Rattle.standing_laws.specs.domain_layout.NewDomain.{IsNew}
use Rattle.staged_pages.specs.Store.{pages_of}
use Rattle.domain_memory.proofs.NewMemory.{new_is_good, stands_for}
use Rattle.standing_laws.specs.free_space.Spaces.{kept_spaces}
use Rattle.domain_memory.proofs.KeptSpace.{kept_is}
use Rattle.domain_memory.proofs.TakingBack.{none_settled, none_to_take_back}
use Rattle.domain_memory.proofs.memory.DomainMemory.of_new.Goals as goal

pub read_cells-requires : goal.read_cells-requires
read_cells-requires c =
    let frame : record { anchor = c.new_anchor.result; version = c.args.version } ≡ new_frame c.args.version c.args.pages = λ i. record { anchor = c.new_anchor.ensures i; version = c.args.version } in
    let new = subst (λ (p : Pages). IsNew p (new_frame c.args.version c.args.pages)) (sym c.keep.ensures.pages) c.in_ok-bring_into.ensures.new in
    record {
      good = subst (λ (f : Frame). AreGood (pages_of c.keep.new.self) f) (sym frame) (new_is_good (pages_of c.keep.new.self) (new_frame c.args.version c.args.pages) new refl);
    }

pub returns-clause-stands : goal.returns-clause-stands
returns-clause-stands c =
    let frame : record { anchor = c.new_anchor.result; version = c.args.version } ≡ new_frame c.args.version c.args.pages = λ i. record { anchor = c.new_anchor.ensures i; version = c.args.version } in
    let same = c.keep.ensures.pages ∙ sym c.keep.ensures.before in
    let new = subst (λ (p : Pages). IsNew p (new_frame c.args.version c.args.pages)) (sym c.keep.ensures.before) c.in_ok-bring_into.ensures.new in
    let marked = subst (λ (p : Pages). IsMarked p (new_frame c.args.version c.args.pages) c.in_ok-space.space) same (subst (λ (f : Frame). IsMarked (pages_of c.keep.new.self) f c.in_ok-space.space) frame c.in_ok-space.ensures) in
    let are = subst (λ (p : Pages). (layout : Layout) → IsLayout p layout → frame_of layout ≡ record { anchor = c.new_anchor.result; version = c.args.version } → AreCellsOf p layout c.in_ok-cells.cells) same c.in_ok-cells.ensures in
    stands_for _ c.args.version c.args.pages c.requires.room c.requires.most frame new c.in_ok-space.space marked (c.space.view_is ∙ c.keep-2.ensures) c.in_ok-cells.cells are _ c.keep-3.ensures.same c.keep-3.ensures.settled
    c.in_ok-new.ensures c.new-2.ensures.entries c.new-2.ensures.tag_pages c.in_ok-free_slots.ensures refl

pub returns-clause-settled : goal.returns-clause-settled
returns-clause-settled c =
    let kept = c.space.view_is ∙ c.keep-2.ensures in
    none_settled _ (c.keep.ensures.pages ∙ sym c.keep.ensures.before) (ap kept_spaces kept ∙ kept_is c.in_ok-space.space ∙ sym kept) c.keep-3.ensures.settled c.in_ok-free_slots.ensures refl c.new-3.ensures.items

pub returns-clause-back : goal.returns-clause-back
returns-clause-back c = none_to_take_back _ c.in_ok-new.ensures.good c.in_ok-free_slots.ensures refl

pub returns-clause-new : goal.returns-clause-new
returns-clause-new c = subst (λ (p : Pages). IsNew p (new_frame c.args.version c.args.pages)) (sym c.keep.ensures.before) c.in_ok-bring_into.ensures.new
