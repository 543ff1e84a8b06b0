use Rattle.std.proofs.Common.{arith, inl, inr, sym, subst}
use Rattle.std.proofs.Math.Logic.{∥∥₁_map}
use Rattle.domain_changes.proofs.OfDomainMemory.KeptStands.{stands_so}
use Rattle.domain_changes.specs.domain_memory.Memory.{StandsFor}
use Rattle.domain_changes.specs.domain_memory.declared.memory.DomainMemory.{DomainMemory}
use Rattle.release_changes.specs.LettingGo.{StandsForAny}
use Rattle.domain_changes.specs.domain_memory.Held.{held_open}
use Rattle.release_changes.proofs.Emptied.{may_known, still_empties}
use Rattle.release_changes.proofs.HeldStill.{kept_held}
use Rattle.release_changes.proofs.releasing.release.Goals as goal

pub returns-in_err-count-clause-stands : goal.returns-in_err-count-clause-stands
returns-in_err-count-clause-stands c = λ all stood. stands_so c.args.memory.now c.let_go.new.memory c.in_err-count.ensures.kept all stood

pub empty_some-requires-clause-stands : goal.empty_some-requires-clause-stands
empty_some-requires-clause-stands c = subst (λ (m : DomainMemory). ∥ StandsForAny m ∥₁) (sym (c.in_ok-count.ensures.none (omega (arith, c.if-count-eq0.true)))) c.requires.stands

pub returns-in_err-is_emptied-clause-stands : goal.returns-in_err-is_emptied-clause-stands
returns-in_err-is_emptied-clause-stands c = λ all stood. c.empty_some.ensures.stands all (subst (λ (m : DomainMemory). StandsFor m all) (sym (c.in_ok-count.ensures.none (omega (arith, c.if-count-eq0.true)))) stood)

pub returns-then-is_emptied-clause-stands : goal.returns-then-is_emptied-clause-stands
returns-then-is_emptied-clause-stands c = λ all stood. c.empty_some.ensures.stands all (subst (λ (m : DomainMemory). StandsFor m all) (sym (c.in_ok-count.ensures.none (omega (arith, c.if-count-eq0.true)))) stood)

pub keep-requires-clause-staged : goal.keep-requires-clause-staged
keep-requires-clause-staged c = ∥∥₁_map c.requires.stands (λ s. (s.0, (c.in_ok-count.ensures.ok s.0 s.1).staged))

pub returns-clause-stands : goal.returns-clause-stands
returns-clause-stands c = λ all stood. c.keep.ensures.stands all (c.in_ok-count.ensures.ok all stood)

pub returns-clause-held : goal.returns-clause-held
returns-clause-held c = kept_held (held_open c.args.memory.now.space) c.let_go.new.memory c.keep.new.self c.keep.ensures.space c.let_go.ensures.held

pub returns-then-is_emptied-clause-goes : goal.returns-then-is_emptied-clause-goes
returns-then-is_emptied-clause-goes c = λ some.
    inr (still_empties c.args.memory.now c.let_go.new.memory c.empty_some.new.memory (c.in_ok-count.ensures.none (omega (arith, c.if-count-eq0.true))) (c.in_ok-is_emptied.ensures.goes c.if-is_emptied.true))

pub returns-clause-goes : goal.returns-clause-goes
returns-clause-goes c = λ some. inl (may_known c.args.memory.now (λ none. some (c.in_ok-count.ensures.some.1 none)))

pub returns-then-is_emptied-clause-some : goal.returns-then-is_emptied-clause-some
returns-then-is_emptied-clause-some c =
    let emptied = still_empties c.args.memory.now c.let_go.new.memory c.empty_some.new.memory (c.in_ok-count.ensures.none (omega (arith, c.if-count-eq0.true))) (c.in_ok-is_emptied.ensures.goes c.if-is_emptied.true) in
    ((λ one. absurd (omega (arith, one))), (λ nothing. absurd (nothing.slots emptied.0 emptied.1)))
