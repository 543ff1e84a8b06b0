use Rattle.std.proofs.Common.{◌≡◌, refl, sym, subst}
use Rattle.attached_domain.specs.fileset_model.Filesets.{FilesetMap}
use Rattle.attached_domain.specs.volume_disk.Disk.{Tells}
use Rattle.attached_domain.specs.volume_disk.Image.{NoPlace}
use Rattle.attached_domain.specs.volume_disk.Run.{OnlyReads, Touches}
use Rattle.attached_domain.specs.disk_label.Fault.{HasPassed}
use Rattle.attached_domain.specs.staged_pages.Store.{before_of}
use Rattle.attached_domain.specs.page_ways.Frame.{frame_in}
use Rattle.attached_domain.specs.log_recovery.Settling.{Anywhere, StandsAtHome}
use Rattle.attached_domain.proofs.OfLogRecovery.Settled.{anywhere, anywhere_then}
use Rattle.attached_domain.specs.domain_layout.Read.{Means}
use Rattle.attached_domain.specs.domain_memory.Memory.{StandsFor}
use Rattle.attached_domain.specs.domain_memory.declared.memory.DomainMemory.{DomainMemory}
use Rattle.domain_bringing.specs.Fault.{IsNoDomain}
use Rattle.domain_attaching.specs.Attaching.{HasCause, HasDomain, IfNotADomain, IfNotFit, IfNotSettled, IsBroughtMemory, IsReadFrom, IsUnfitDomain}
use Rattle.domain_attaching.specs.Settling.{HasNoGroups, IfRefused, IsNotSettled, StandHome, StaysReadSince, WritesNone, rested_anchor, with_anchor}
use Rattle.domain_attaching.proofs.Anew.{stands_anew, whole_anew}
use Rattle.domain_attaching.proofs.HomeKept.{passed_then}
use Rattle.domain_attaching.proofs.Mapped.{err_too, ok_both, ok_too}
use Rattle.domain_attaching.proofs.Rested.{home_since, recovered_synced, stand_home, still_since}
use Rattle.domain_attaching.proofs.Since.{not_refused, not_unfit, not_wrong, refused_if, settle_cause, settled_first, since_read, whole_if, writes_none}
use Rattle.domain_attaching.proofs.attaching.attach.Goals as goal

pub attach_brought-requires-clause-memory : goal.attach_brought-requires-clause-memory
attach_brought-requires-clause-memory g c = subst (λ sizes. IsBroughtMemory sizes c.in-Ok.found) (sym c.bring_memory.ensures.reads.touches.sizes) c.in-Ok.ensures.memory

pub attach_brought-requires-clause-recovered : goal.attach_brought-requires-clause-recovered
attach_brought-requires-clause-recovered g c =
    recovered_synced (g.R.Rack.disk c.args.rack) (g.R.Rack.disk c.bring_memory.new.rack) c.bring_memory.ensures.reads.touches c.in-Ok.found.redone
    (λ told. let from = c.in-Ok.ensures.same told in (from.groups, from.recovered))

pub returns-in-Ok-clause-means : goal.returns-in-Ok-clause-means
returns-in-Ok-clause-means g c =
    let old = g.R.Rack.disk c.args.rack in
    let found = c.in-Ok.found in
    ok_too c.attach_brought.result (λ attached. attached.memory ≡ with_anchor (rested_anchor found.redone) found.memory) (λ attached. Tells old → (all : FilesetMap) → Means old.sizes old.now.contents all → StandsFor attached.memory all)
    (λ attached is told all means. subst (λ (m : DomainMemory). StandsFor m all) (sym is) (stands_anew found.memory found.redone c.in-Ok.ensures.memory.anchor all (c.in-Ok.ensures.means told all means))) c.attach_brought.ensures.memory

pub returns-in-Ok-clause-from : goal.returns-in-Ok-clause-from
returns-in-Ok-clause-from g c =
    let old = g.R.Rack.disk c.args.rack in
    let found = c.in-Ok.found in
    ok_too c.attach_brought.result (λ attached. attached.memory ≡ with_anchor (rested_anchor found.redone) found.memory) (λ attached. Tells old → IsReadFrom old.sizes old.now.contents attached.memory)
    (λ attached is told. subst (λ (m : DomainMemory). IsReadFrom old.sizes old.now.contents m) (sym is) (record {
      found = found.redone;
      anchor = refl;
      same = c.in-Ok.ensures.same told;
      whole = whole_anew found.memory found.redone c.in-Ok.ensures.memory.anchor c.in-Ok.ensures.memory.whole;
    })) c.attach_brought.ensures.memory

pub returns-in-Ok-clause-home : goal.returns-in-Ok-clause-home
returns-in-Ok-clause-home g c =
    let old = g.R.Rack.disk c.args.rack in
    let mid = g.R.Rack.disk c.bring_memory.new.rack in
    let found = c.in-Ok.found in
    ok_both c.attach_brought.result (λ attached. StandsAtHome mid (g.R.Rack.disk attached.rack)) (λ attached. attached.memory ≡ with_anchor (rested_anchor found.redone) found.memory)
    (λ attached. Tells old → StandHome (g.R.Rack.disk attached.rack) (before_of attached.memory.pages))
    (λ attached home is told.
    let new = g.R.Rack.disk attached.rack in
    subst (λ (m : DomainMemory). StandHome new (before_of m.pages)) (sym is)
    (stand_home old new (before_of found.memory.pages) found.redone (home_since old mid c.bring_memory.ensures.reads.touches new home) told (c.in-Ok.ensures.same told)))
    c.attach_brought.ensures.home c.attach_brought.ensures.memory

pub returns-in-Ok-clause-any_moment : goal.returns-in-Ok-clause-any_moment
returns-in-Ok-clause-any_moment g c =
    let old = g.R.Rack.disk c.args.rack in
    let mid = g.R.Rack.disk c.bring_memory.new.rack in
    ok_too c.attach_brought.result (λ attached. StaysReadSince mid (g.R.Rack.disk attached.rack)) (λ attached. StaysReadSince old (g.R.Rack.disk attached.rack))
    (λ attached stays. since_read old mid (g.R.Rack.disk attached.rack) c.bring_memory.ensures.reads stays) c.attach_brought.ensures.any_moment

pub returns-in-Ok-clause-any_moment_of_fault : goal.returns-in-Ok-clause-any_moment_of_fault
returns-in-Ok-clause-any_moment_of_fault g c =
    let old = g.R.Rack.disk c.args.rack in
    let mid = g.R.Rack.disk c.bring_memory.new.rack in
    err_too c.attach_brought.result (λ back. StaysReadSince mid (g.R.Rack.disk back.0)) (λ back. StaysReadSince old (g.R.Rack.disk back.0))
    (λ back stays. since_read old mid (g.R.Rack.disk back.0) c.bring_memory.ensures.reads stays) c.attach_brought.ensures.any_moment_of_fault

pub returns-in-Ok-clause-refused : goal.returns-in-Ok-clause-refused
returns-in-Ok-clause-refused g c =
    let old = g.R.Rack.disk c.args.rack in
    let mid = g.R.Rack.disk c.bring_memory.new.rack in
    err_too c.attach_brought.result (λ back. IsNotSettled mid (g.R.Rack.disk back.0) back.1) (λ back. IfRefused back.1 (OnlyReads old (g.R.Rack.disk back.0)))
    (λ back is. not_refused mid (g.R.Rack.disk back.0) back.1 (OnlyReads old (g.R.Rack.disk back.0)) is) c.attach_brought.ensures.cause

pub returns-in-Ok-clause-wrong : goal.returns-in-Ok-clause-wrong
returns-in-Ok-clause-wrong g c =
    let old = g.R.Rack.disk c.args.rack in
    let mid = g.R.Rack.disk c.bring_memory.new.rack in
    err_too c.attach_brought.result (λ back. IsNotSettled mid (g.R.Rack.disk back.0) back.1) (λ back. IfNotADomain back.1 (λ vol at. Tells old → IsNoDomain old.sizes old.now.contents vol at))
    (λ back is. not_wrong mid (g.R.Rack.disk back.0) back.1 (λ vol at. Tells old → IsNoDomain old.sizes old.now.contents vol at) is) c.attach_brought.ensures.cause

pub returns-in-Ok-clause-unfit : goal.returns-in-Ok-clause-unfit
returns-in-Ok-clause-unfit g c =
    let old = g.R.Rack.disk c.args.rack in
    let mid = g.R.Rack.disk c.bring_memory.new.rack in
    err_too c.attach_brought.result (λ back. IsNotSettled mid (g.R.Rack.disk back.0) back.1) (λ back. IfNotFit back.1 (λ why. Tells old → IsUnfitDomain old.sizes old.now.contents why))
    (λ back is. not_unfit mid (g.R.Rack.disk back.0) back.1 (λ why. Tells old → IsUnfitDomain old.sizes old.now.contents why) is) c.attach_brought.ensures.cause

pub returns-in-Ok-clause-cause : goal.returns-in-Ok-clause-cause
returns-in-Ok-clause-cause g c =
    let old = g.R.Rack.disk c.args.rack in
    let mid = g.R.Rack.disk c.bring_memory.new.rack in
    err_too c.attach_brought.result (λ back. IsNotSettled mid (g.R.Rack.disk back.0) back.1) (λ back. HasCause old (g.R.Rack.disk back.0) back.1)
    (λ back is. settle_cause old mid (g.R.Rack.disk back.0) back.1 c.bring_memory.ensures.reads c.in-Ok.ensures.passed is) c.attach_brought.ensures.cause

pub returns-in-Err-clause-any_moment_of_fault : goal.returns-in-Err-clause-any_moment_of_fault
returns-in-Err-clause-any_moment_of_fault g c = still_since (g.R.Rack.disk c.args.rack) (g.R.Rack.disk c.bring_memory.new.rack) c.bring_memory.ensures.reads.touches

pub returns-in-Err-clause-refused : goal.returns-in-Err-clause-refused
returns-in-Err-clause-refused g c = refused_if c.in-Err.fault (OnlyReads (g.R.Rack.disk c.args.rack) (g.R.Rack.disk c.bring_memory.new.rack)) c.bring_memory.ensures.reads

pub returns-in-Ok-clause-none : goal.returns-in-Ok-clause-none
returns-in-Ok-clause-none g c =
    let old = g.R.Rack.disk c.args.rack in
    let mid = g.R.Rack.disk c.bring_memory.new.rack in
    let found = c.in-Ok.found in
    ok_too c.attach_brought.result (λ attached. HasNoGroups found.redone → Touches mid (g.R.Rack.disk attached.rack) NoPlace) (λ attached. WritesNone old (g.R.Rack.disk attached.rack))
    (λ attached none. writes_none old mid (g.R.Rack.disk attached.rack) found.redone c.bring_memory.ensures.reads (λ told. let from = c.in-Ok.ensures.same told in (from.groups, from.recovered)) none) c.attach_brought.ensures.none

pub returns-in-Ok-clause-none_at_fault : goal.returns-in-Ok-clause-none_at_fault
returns-in-Ok-clause-none_at_fault g c =
    let old = g.R.Rack.disk c.args.rack in
    let mid = g.R.Rack.disk c.bring_memory.new.rack in
    let found = c.in-Ok.found in
    err_too c.attach_brought.result (λ back. HasNoGroups found.redone → Touches mid (g.R.Rack.disk back.0) NoPlace) (λ back. WritesNone old (g.R.Rack.disk back.0))
    (λ back none. writes_none old mid (g.R.Rack.disk back.0) found.redone c.bring_memory.ensures.reads (λ told. let from = c.in-Ok.ensures.same told in (from.groups, from.recovered)) none) c.attach_brought.ensures.none_at_fault

pub returns-in-Err-clause-none_at_fault : goal.returns-in-Err-clause-none_at_fault
returns-in-Err-clause-none_at_fault g c = λ told anchor log. c.bring_memory.ensures.reads.touches

pub returns-in-Ok-clause-touches : goal.returns-in-Ok-clause-touches
returns-in-Ok-clause-touches g c =
    let old = g.R.Rack.disk c.args.rack in
    let mid = g.R.Rack.disk c.bring_memory.new.rack in
    ok_too c.attach_brought.result (λ attached. Touches mid (g.R.Rack.disk attached.rack) Anywhere) (λ attached. Touches old (g.R.Rack.disk attached.rack) Anywhere)
    (λ attached is. anywhere_then old mid (g.R.Rack.disk attached.rack) NoPlace Anywhere c.bring_memory.ensures.reads.touches is) c.attach_brought.ensures.touches

pub returns-in-Ok-clause-touches_at_fault : goal.returns-in-Ok-clause-touches_at_fault
returns-in-Ok-clause-touches_at_fault g c =
    let old = g.R.Rack.disk c.args.rack in
    let mid = g.R.Rack.disk c.bring_memory.new.rack in
    err_too c.attach_brought.result (λ back. Touches mid (g.R.Rack.disk back.0) Anywhere) (λ back. Touches old (g.R.Rack.disk back.0) Anywhere)
    (λ back is. anywhere_then old mid (g.R.Rack.disk back.0) NoPlace Anywhere c.bring_memory.ensures.reads.touches is) c.attach_brought.ensures.touches_at_fault

pub returns-in-Err-clause-touches_at_fault : goal.returns-in-Err-clause-touches_at_fault
returns-in-Err-clause-touches_at_fault g c = anywhere (g.R.Rack.disk c.args.rack) (g.R.Rack.disk c.bring_memory.new.rack) NoPlace c.bring_memory.ensures.reads.touches

pub returns-in-Ok-clause-passed : goal.returns-in-Ok-clause-passed
returns-in-Ok-clause-passed g c =
    let old = g.R.Rack.disk c.args.rack in
    let mid = g.R.Rack.disk c.bring_memory.new.rack in
    ok_too c.attach_brought.result (λ attached. HasPassed mid (g.R.Rack.disk attached.rack)) (λ attached. HasPassed old (g.R.Rack.disk attached.rack))
    (λ attached passed. passed_then old mid (g.R.Rack.disk attached.rack) (c.in-Ok.ensures.passed, c.bring_memory.ensures.reads.write_faults) passed) c.attach_brought.ensures.passed

pub returns-in-Ok-clause-whole : goal.returns-in-Ok-clause-whole
returns-in-Ok-clause-whole g c =
    let old = g.R.Rack.disk c.args.rack in
    let mid = g.R.Rack.disk c.bring_memory.new.rack in
    let found = c.in-Ok.found in
    err_too c.attach_brought.result (λ back. IsNotSettled mid (g.R.Rack.disk back.0) back.1) (λ back. IfNotSettled back.1 (Tells old → HasDomain old.sizes old.now.contents))
    (λ back is. whole_if back.1 (Tells old → HasDomain old.sizes old.now.contents) (λ told. record {
      pages = before_of found.memory.pages;
      frame = frame_in found.memory.frame;
      found = found.redone;
      whole = c.in-Ok.ensures.memory.whole;
      anchor = c.in-Ok.ensures.memory.anchor;
      same = c.in-Ok.ensures.same told;
    })) c.attach_brought.ensures.cause

pub returns-in-Err-clause-whole : goal.returns-in-Err-clause-whole
returns-in-Err-clause-whole g c =
    let old = g.R.Rack.disk c.args.rack in
    settled_first c.in-Err.fault (Tells old → HasDomain old.sizes old.now.contents) c.in-Err.ensures.first
