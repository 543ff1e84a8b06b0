use Rattle.std.proofs.Common.{IfSome, subst}
use Rattle.file_release.specs.Steps.{IsStaleCell}
use Rattle.file_release.proofs.Found.{found_unreleased}
use Rattle.file_release.proofs.Went.{idle_none, kept_none, something, went_some}
use Rattle.file_release.proofs.releasing.release_tail.Goals as goal

pub returns-in-Some-clause-ok : goal.returns-in-Some-clause-ok
returns-in-Some-clause-ok g c = λ chain own sharing.
    went_some c.args.from c.args.start c.args.reader.now c.args.group c.args.version chain own c.args.space.now c.release_at.new.space c.args.cells.now c.release_at.new.cells (g.M.MetaPages.pages c.args.pages.now) (g.M.MetaPages.pages c.release_at.new.pages) c.release_at.result (c.release_at.ensures.ok chain own sharing (subst (λ o. IfSome o (IsStaleCell c.args.from chain)) c.in-Some.is (c.in_ok-stale.ensures.some chain sharing.file)))

pub returns-in-Some-clause-nothing : goal.returns-in-Some-clause-nothing
returns-in-Some-clause-nothing g c = λ chain own sharing.
    let spot = subst (λ o. IfSome o (IsStaleCell c.args.from chain)) c.in-Some.is (c.in_ok-stale.ensures.some chain sharing.file) in
    something c.args.from c.args.start c.args.reader.now c.args.group c.args.version chain own c.args.space.now c.release_at.new.space c.args.cells.now c.release_at.new.cells (g.M.MetaPages.pages c.args.pages.now) (g.M.MetaPages.pages c.release_at.new.pages) c.release_at.result (found_unreleased c.args.from chain c.in-Some.stale spot) (c.release_at.ensures.ok chain own sharing spot)

pub returns-in-Some-clause-kept : goal.returns-in-Some-clause-kept
returns-in-Some-clause-kept g c =
    let s = c.requires.sharing in
    let spot = subst (λ o. IfSome o (IsStaleCell c.args.from s.0)) c.in-Some.is (c.in_ok-stale.ensures.some s.0 s.2.file) in
    kept_none c.args.from c.args.start c.args.reader.now c.args.group c.args.version s.0 s.1 c.args.space.now c.release_at.new.space c.args.cells.now c.release_at.new.cells (g.M.MetaPages.pages c.args.pages.now) (g.M.MetaPages.pages c.release_at.new.pages) c.release_at.result (c.release_at.ensures.ok s.0 s.1 s.2 spot)

pub returns-in-Some-clause-others : goal.returns-in-Some-clause-others
returns-in-Some-clause-others g c = λ chain own sharing.
    c.release_at.ensures.others chain own sharing (subst (λ o. IfSome o (IsStaleCell c.args.from chain)) c.in-Some.is (c.in_ok-stale.ensures.some chain sharing.file))

pub returns-in-Some-clause-idle : goal.returns-in-Some-clause-idle
returns-in-Some-clause-idle g c =
    let s = c.requires.sharing in
    let spot = subst (λ o. IfSome o (IsStaleCell c.args.from s.0)) c.in-Some.is (c.in_ok-stale.ensures.some s.0 s.2.file) in
    idle_none c.args.from c.args.start c.args.reader.now c.args.group c.args.version s.0 s.1 c.args.space.now c.release_at.new.space c.args.cells.now c.release_at.new.cells (g.M.MetaPages.pages c.args.pages.now) (g.M.MetaPages.pages c.release_at.new.pages) _ c.release_at.result (c.release_at.ensures.ok s.0 s.1 s.2 spot)
