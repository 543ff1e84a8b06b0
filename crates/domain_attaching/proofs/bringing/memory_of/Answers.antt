use Rattle.std.proofs.Common.{◌∙◌, sym, ap, subst}
use Rattle.attached_domain.specs.page_store.Pages.{Pages}
use Rattle.attached_domain.specs.staged_pages.Store.{before_of}
use Rattle.attached_domain.specs.page_ways.Frame.{frame_in}
use Rattle.attached_domain.specs.domain_layout.Reached.{Frame}
use Rattle.attached_domain.specs.Causes.{MayBeRead}
use Rattle.domain_bringing.specs.Brought.{IsWholeDomain}
use Rattle.domain_attaching.proofs.MayRead.{may_be_read, table_home}
use Rattle.domain_attaching.proofs.bringing.memory_of.Goals as goal

pub read_domain-requires-clause-kept : goal.read_domain-requires-clause-kept
read_domain-requires-clause-kept c = c.requires.1.settled

pub read_domain-requires-clause-may : goal.read_domain-requires-clause-may
read_domain-requires-clause-may c =
    let brought = c.args.brought in
    subst (λ (p : Pages). MayBeRead p (frame_in brought.frame)) (sym c.requires.1.settled) (may_be_read (before_of brought.pages) (frame_in brought.frame) c.requires.1.whole)

pub returns-clause-memory : goal.returns-clause-memory
returns-clause-memory c sizes is =
    let brought = c.args.brought in
    let home = table_home brought.frame.anchor.table is.whole.good.named.1 in
    record {
      all = is.whole.all;
      stands = c.in_ok-memory.ensures.stands home.0 is.whole.all home.1 (is.whole.reads home.0 home.1);
      settled = c.in_ok-memory.ensures.settled;
      back = c.in_ok-memory.ensures.back;
      anchor = ap (λ (f : Frame). f.anchor) c.in_ok-memory.ensures.frame ∙ is.anchor;
      sound = is.sound;
      whole = subst (IsWholeDomain (before_of c.in_ok-memory.memory.pages)) (sym c.in_ok-memory.ensures.frame)
          (subst (λ (p : Pages). IsWholeDomain p (frame_in brought.frame)) (ap before_of (sym c.in_ok-memory.ensures.pages)) is.whole);
    }

pub returns-clause-stands : goal.returns-clause-stands
returns-clause-stands c all has =
    let brought = c.args.brought in
    let home = table_home brought.frame.anchor.table c.requires.1.whole.good.named.1 in
    c.in_ok-memory.ensures.stands home.0 all home.1 (has home.0 home.1)
