use Rattle.std.proofs.Common.{◌≡◌, ◌∙◌, ◌+◌, ◌-◌, ◌/◌, ◌==◌, ◌≤◌, ℕ, false, List, length, refl, sym, ap, subst, arith, true≢false, ⊎_elim}
use Rattle.std.proofs.lemmas.Bool.{cases_lt, eq-eqb, eqb-true}
use Rattle.std.specs.List.{range_with_len}
use Rattle.domain_memory.specs.fileset_model.Pages.{pages_of}
use Rattle.file_changes.proofs.Calls.{err_and}
use Rattle.file_changes.proofs.Laid.{pages_are, pages_have}
use Rattle.file_changes.proofs.Steps.{WritesSoFar, none_so_far, one_more}
use Rattle.file_changes.specs.Stages.{StandsChanged}
use Rattle.file_changes.specs.Writing.{with_written}
use Rattle.file_changes.proofs.Wanted.{wants_page}
use Rattle.file_changes.proofs.writing.write_pages.Goals as goal

pub returns-then-is_empty-clause-ok : goal.returns-then-is_empty-clause-ok
returns-then-is_empty-clause-ok c = λ path all entry fileset has.
    let bytes = c.args.bytes.now in
    let none : length bytes ≡ 0 = eqb-true (length bytes) 0 (sym c.is_empty.ensures ∙ c.if-is_empty.true) in
    (none_so_far c.args.memory.now c.args.number c.args.tag c.args.offset bytes c.requires.stands c.requires.back c.requires.original c.requires.file (pages_of c.args.offset (length bytes)) (λ node. ap (λ n. with_written (pages_of c.args.offset n) c.args.offset bytes node) none)).done path all entry fileset has

pub loop-page-init : goal.loop-page-init
loop-page-init c =
    let first = c.args.offset / 8192 in
    let start = c.args.memory.now in
    let zero : 0 ≡ first - first = omega arith in
    subst (λ n. WritesSoFar start c.args.number c.args.tag c.args.offset c.args.bytes.now (range_with_len first n) start) zero
    (none_so_far start c.args.number c.args.tag c.args.offset c.args.bytes.now c.requires.stands c.requires.back c.requires.original c.requires.file (range_with_len first 0) (λ node. refl))

ne-zero : (n : ℕ) → (n == 0) ≡ false → 1 ≤ n
ne-zero n some = ⊎_elim (λ none. absurd (true≢false (sym (eq-eqb n 0 (omega (arith, none))) ∙ some))) (λ more. omega (arith, more)) (cases_lt n 1)

pub write_page-requires-clause-writable : goal.write_page-requires-clause-writable
write_page-requires-clause-writable c =
    let bytes = c.args.bytes.now in
    let some = ne-zero (length bytes) (sym c.is_empty.ensures ∙ c.if-is_empty.false) in
    c.loop-page.invariant.open_still c.loop-page.page (c.requires.writable c.loop-page.page (pages_have c.args.offset (length bytes) c.loop-page.page some c.loop-page.auto.page c.loop-page-test.true))

pub loop-page-preserved : goal.loop-page-preserved
loop-page-preserved c =
    let first = c.args.offset / 8192 in
    let page = c.loop-page.page in
    let start = c.args.memory.now in
    let next : page - first + 1 ≡ page + 1 - first = omega (arith, c.loop-page.auto.page) in
    subst (λ n. WritesSoFar start c.args.number c.args.tag c.args.offset c.args.bytes.now (range_with_len first n) c.write_page.new.memory) next
    (one_more start c.args.number c.args.tag c.args.offset c.args.bytes.now c.requires.stands c.requires.back c.requires.original c.requires.file first (page - first) page (omega (arith, c.loop-page.auto.page)) c.loop-page.memory c.write_page.new.memory c.loop-page.invariant (record {
      done = c.in_ok-write_page.ensures.ok;
      parents = c.in_ok-write_page.ensures.parents;
      open_still = c.in_ok-write_page.ensures.open_still;
      rest = c.write_page.ensures.rest;
    }))

pub returns-clause-ok : goal.returns-clause-ok
returns-clause-ok c = λ path all entry fileset has.
    let first = c.args.offset / 8192 in
    let bytes = c.args.bytes.now in
    let some = ne-zero (length bytes) (sym c.is_empty.ensures ∙ c.if-is_empty.false) in
    let whole : c.loop-page.page - first ≡ (c.args.offset + length bytes - 1) / 8192 + 1 - first = omega (arith, c.loop-page-test.false, c.loop-page.auto.page-end) in
    subst (λ (qs : List ℕ). StandsChanged path (with_written qs c.args.offset bytes) all entry fileset c.loop-page.memory)
    (ap (λ n. range_with_len first n) whole ∙ sym (pages_are c.args.offset (length bytes) some))
    (c.loop-page.invariant.done path all entry fileset has)

pub returns-in_err-write_page-clause-cause : goal.returns-in_err-write_page-clause-cause
returns-in_err-write_page-clause-cause c =
    let page = c.loop-page.page in
    let bytes = c.args.bytes.now in
    let some = ne-zero (length bytes) (sym c.is_empty.ensures ∙ c.if-is_empty.false) in
    err_and (λ fault same is. wants_page c.args.memory.now c.args.number c.args.tag c.args.offset bytes page (omega (arith, c.loop-page.auto.page)) (pages_have c.args.offset (length bytes) page some c.loop-page.auto.page c.loop-page-test.true) c.loop-page.memory c.loop-page.invariant
    (c.in_err-write_page.ensures.cause (sym same ∙ is))) c.from_residual.result c.from_residual.ensures.1
