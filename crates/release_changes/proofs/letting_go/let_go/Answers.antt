use Rattle.std.proofs.Common.{inl, refl, sym, subst}
use Rattle.std.proofs.lemmas.Bool.{MatchBool-at_true}
use Rattle.domain_changes.proofs.OfFileChains.FewPages.{none_changes}
use Rattle.domain_changes.specs.release_list.Listing.{IsEmpty, Listing}
use Rattle.domain_changes.specs.release_list.Standing.{Files}
use Rattle.domain_changes.specs.release_list.Steps.{IsWell, LacksRoom, LetsGo, none, now_of}
use Rattle.domain_changes.specs.staged_pages.Store.{pages_of}
use Rattle.domain_changes.specs.domain_memory.declared.memory.DomainMemory.{DomainMemory}
use Rattle.domain_changes.proofs.OfDomainMemory.SettledKept.{settled_kept}
use Rattle.domain_changes.specs.domain_memory.Going.{MayLetGo}
use Rattle.release_changes.proofs.HeldOver.{list_less}
use Rattle.release_changes.proofs.LetGo.{let_go_so}
use Rattle.release_changes.proofs.LetGoEnds.{asks_well, back_stays, never_lacks}
use Rattle.release_changes.proofs.letting_go.let_go.Goals as goal

pub returns-then-not-may_let_go-clause-ok : goal.returns-then-not-may_let_go-clause-ok
returns-then-not-may_let_go-clause-ok c = λ all stood. settled_kept c.args.memory.now all c.requires.settled stood

pub returns-then-not-may_let_go-clause-goes : goal.returns-then-not-may_let_go-clause-goes
returns-then-not-may_let_go-clause-goes c = λ files well. inl (record {
  files = files;
  steps = none;
  well = well;
})

pub returns-then-not-may_let_go-clause-few : goal.returns-then-not-may_let_go-clause-few
returns-then-not-may_let_go-clause-few c = let pages = pages_of c.args.memory.now.pages in none_changes c.args.most pages pages refl

pub release_some-requires-clause-well : goal.release_some-requires-clause-well
release_some-requires-clause-well c =
    let memory = c.args.memory.now in
    subst (λ (l : Listing). (files : Files) × IsWell (now_of l files memory.space memory.cells (pages_of memory.pages))) (sym c.start_over.ensures.list) (asks_well memory c.requires.settled c.requires.stands)

pub unreachable-requires : goal.unreachable-requires
unreachable-requires c =
    let memory = c.args.memory.now in
    let found = asks_well memory c.requires.settled c.requires.stands in
    let well = subst (λ (l : Listing). IsWell (now_of l found.0 memory.space memory.cells (pages_of memory.pages))) (sym c.start_over.ensures.list) found.1 in
    never_lacks memory c.requires.settled c.requires.stands found.0 (subst (λ (l : Listing). LacksRoom l found.0) c.start_over.ensures.list (c.in-Err-NoPage.ensures.full found.0 well c.in-Err-NoPage.field-0-is))

pub returns-in-Ok-clause-ok : goal.returns-in-Ok-clause-ok
returns-in-Ok-clause-ok c = λ all stood.
    let memory = c.args.memory.now in
    let now : DomainMemory = record memory { pages = c.release_some.new.pages; space = c.release_some.new.space; cells = c.release_some.new.cells; list = c.release_some.new.self } in
    let_go_so memory now c.requires.settled (MatchBool-at_true (MayLetGo memory) (¬ MayLetGo memory) c.if-not-may_let_go.false c.may_let_go.ensures) refl c.args.group c.in-Ok.count
    (λ files well. subst (λ (l : Listing). LetsGo c.args.group memory.frame.version (now_of l files memory.space memory.cells (pages_of memory.pages)) c.in-Ok.count now.list.list now.space now.cells (pages_of now.pages)) c.start_over.ensures.list
    (c.in-Ok.ensures.ok files (subst (λ (l : Listing). IsWell (now_of l files memory.space memory.cells (pages_of memory.pages))) (sym c.start_over.ensures.list) well)))
    all (settled_kept memory all c.requires.settled stood)

pub returns-in-Ok-clause-goes : goal.returns-in-Ok-clause-goes
returns-in-Ok-clause-goes c = λ files well.
    let memory = c.args.memory.now in
    subst (λ (l : Listing). LetsGo c.args.group memory.frame.version (now_of l files memory.space memory.cells (pages_of memory.pages)) c.in-Ok.count c.release_some.new.self.list c.release_some.new.space c.release_some.new.cells (pages_of c.release_some.new.pages)) c.start_over.ensures.list
    (c.in-Ok.ensures.ok files (subst (λ (l : Listing). IsWell (now_of l files memory.space memory.cells (pages_of memory.pages))) (sym c.start_over.ensures.list) well))

pub returns-in-Ok-clause-back : goal.returns-in-Ok-clause-back
returns-in-Ok-clause-back c =
    let memory = c.args.memory.now in
    back_stays memory (record memory { pages = c.release_some.new.pages; space = c.release_some.new.space; cells = c.release_some.new.cells; list = c.release_some.new.self }) refl c.requires.back

pub returns-in-Err-OutOfMemory-clause-back : goal.returns-in-Err-OutOfMemory-clause-back
returns-in-Err-OutOfMemory-clause-back c =
    let memory = c.args.memory.now in
    back_stays memory (record memory { pages = c.release_some.new.pages; space = c.release_some.new.space; cells = c.release_some.new.cells; list = c.release_some.new.self }) refl c.requires.back

pub returns-in-Ok-clause-none : goal.returns-in-Ok-clause-none
returns-in-Ok-clause-none c = λ zero.
    let memory = c.args.memory.now in
    let may = MatchBool-at_true (MayLetGo memory) (¬ MayLetGo memory) c.if-not-may_let_go.false c.may_let_go.ensures in
    absurd (may.some (subst IsEmpty c.start_over.ensures.list (c.in-Ok.ensures.some.0 zero)))

pub returns-in-Ok-clause-held : goal.returns-in-Ok-clause-held
returns-in-Ok-clause-held c =
    let memory = c.args.memory.now in
    let now : DomainMemory = record memory { pages = c.release_some.new.pages; space = c.release_some.new.space; cells = c.release_some.new.cells; list = c.release_some.new.self } in
    list_less c.args.group c.in-Ok.count memory now c.requires.settled (λ files well.
    subst (λ (l : Listing). LetsGo c.args.group memory.frame.version (now_of l files memory.space memory.cells (pages_of memory.pages)) c.in-Ok.count c.release_some.new.self.list c.release_some.new.space c.release_some.new.cells (pages_of c.release_some.new.pages)) c.start_over.ensures.list
    (c.in-Ok.ensures.ok files (subst (λ (l : Listing). IsWell (now_of l files memory.space memory.cells (pages_of memory.pages))) (sym c.start_over.ensures.list) well))) c.requires.stands
