-- The memory of a domain, with the anchor that settles the log that was recovered.
use Rattle.std.proofs.Common.{◌≡◌, ◌==◌, Bool, true, false, if◌then◌else◌, refl, sym, subst}
use Rattle.attached_domain.specs.disk_label.declared.anchor.Anchor.{Anchor}
use Rattle.attached_domain.specs.log_recovery.Readable.{restarted}
use Rattle.attached_domain.specs.log_recovery.Settled.{settled_anchor}
use Rattle.attached_domain.specs.log_recovery.declared.redone.Redone.{Redone}
use Rattle.attached_domain.specs.fileset_model.Filesets.{FilesetMap}
use Rattle.attached_domain.specs.page_ways.Frame.{frame_in}
use Rattle.domain_attaching.specs.Same.{SameDomain}
use Rattle.domain_attaching.proofs.Beside.{alone_with, marked_with, parents_with, sound_with, stands_with}
use Rattle.attached_domain.specs.domain_memory.Memory.{StandsFor, kept_in}
use Rattle.attached_domain.specs.domain_memory.Staged.{IsSettled, MayGoBack}
use Rattle.attached_domain.specs.domain_memory.declared.memory.DomainMemory.{DomainMemory}
use Rattle.attached_domain.specs.staged_pages.Store.{before_of}
use Rattle.domain_bringing.specs.Brought.{IsWholeDomain}
use Rattle.domain_attaching.specs.Settling.{rested_anchor, with_anchor}

-- both anchors are of one domain
settles_same : (memory : DomainMemory) (found : Redone) → memory.frame.anchor ≡ found.anchor → SameDomain (frame_in memory.frame) (frame_in (with_anchor (settled_anchor found) memory).frame)
settles_same memory found is =
    subst
    (λ (a : Anchor).
    frame_in (with_anchor (settled_anchor found) memory).frame
    ≡ record (frame_in memory.frame) { anchor = restarted a (settled_anchor found).number (settled_anchor found).slot (settled_anchor found).start (settled_anchor found).group }) (sym is) refl

stays_same : (memory : DomainMemory) (found : Redone) → memory.frame.anchor ≡ found.anchor → SameDomain (frame_in memory.frame) (frame_in (with_anchor found.anchor memory).frame)
stays_same memory found is =
    subst
    (λ (a : Anchor).
    frame_in (with_anchor found.anchor memory).frame
    ≡ record (frame_in memory.frame) { anchor = restarted a found.anchor.number found.anchor.slot found.anchor.start found.anchor.group }) (sym is) refl

rests_same : (memory : DomainMemory) (found : Redone) → memory.frame.anchor ≡ found.anchor → SameDomain (frame_in memory.frame) (frame_in (with_anchor (rested_anchor found) memory).frame)
rests_same memory found is = by_test (found.next_group == found.anchor.group)
  where
    by_test : (b : Bool) → SameDomain (frame_in memory.frame) (frame_in (with_anchor (if b then found.anchor else settled_anchor found) memory).frame)
    by_test true = stays_same memory found is
    by_test false = settles_same memory found is

module _ (memory : DomainMemory) (anchor : Anchor) where
  abbrev new : DomainMemory
  new = with_anchor anchor memory

  stands_with_anchor : SameDomain (frame_in memory.frame) (frame_in new.frame) → (all : FilesetMap) → StandsFor memory all → StandsFor new all
  stands_with_anchor same all stands = record {
    stands = stands_with (kept_in memory) (frame_in new.frame) same all stands.stands;
    alone = alone_with (kept_in memory) (frame_in new.frame) same stands.alone;
    sound = sound_with (kept_in memory) (frame_in new.frame) same stands.sound;
    parents = parents_with (kept_in memory) (frame_in new.frame) same stands.parents;
    marked = marked_with (kept_in memory) (frame_in new.frame) same stands.marked;
    books = stands.books;
  }

  pub settled_new : IsSettled memory → IsSettled new
  settled_new is = record { pages = is.pages; space = is.space; cells = is.cells; places = is.places; books = is.books; was = is.was; listed = is.listed }

  pub back_new : MayGoBack memory → MayGoBack new
  back_new back = record { has = record { count = back.has.count; numbered = back.has.numbered }; table = back.table; slots = back.slots }

pub stands_anew : (memory : DomainMemory) (found : Redone) → memory.frame.anchor ≡ found.anchor → (all : FilesetMap) → StandsFor memory all → StandsFor (with_anchor (rested_anchor found) memory) all
stands_anew memory found is all stands = stands_with_anchor memory (rested_anchor found) (rests_same memory found is) all stands

-- by whatever name the anchor has
pub stands_new : (memory : DomainMemory) (found : Redone) (anchor : Anchor) → anchor ≡ rested_anchor found → memory.frame.anchor ≡ found.anchor → (all : FilesetMap) → StandsFor memory all → StandsFor (with_anchor anchor memory) all
stands_new memory found anchor is same all stands = subst (λ (a : Anchor). StandsFor (with_anchor a memory) all) (sym is) (stands_anew memory found same all stands)

-- the pages that memory has break no rule of the domain with the anchor that was recovered
pub whole_anew : (memory : DomainMemory) (found : Redone) → memory.frame.anchor ≡ found.anchor → IsWholeDomain (before_of memory.pages) (frame_in memory.frame)
    → IsWholeDomain (before_of memory.pages) (record (frame_in memory.frame) { anchor = found.anchor })
whole_anew memory found is whole = subst (λ (a : Anchor). IsWholeDomain (before_of memory.pages) (record (frame_in memory.frame) { anchor = a })) is whole
