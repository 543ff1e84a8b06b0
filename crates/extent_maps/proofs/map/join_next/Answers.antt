use Rattle.std.proofs.Common.{◌≡◌, ◌+◌, ◌≤◌, false, true, drop, length, sym, ap, subst, ◌∙◌, arith}
use Rattle.extent_maps.specs.Runs.{first_goes_on}
use Rattle.extent_maps.proofs.EditLemmas.{behind_taken, drop_runs, first_apart, joins}
use Rattle.extent_maps.proofs.map.join_next.Goals as goal

pub with-requires-clause-next : goal.with-requires-clause-next
with-requires-clause-next c =
    let runs = c.args.runs.now.items in
    let e : first_goes_on c.args.run (drop c.args.at runs) ≡ true = subst (λ l. first_goes_on c.args.run (drop c.args.at l) ≡ true) c.deref.ensures.value (sym c.goes_on_at.ensures ∙ c.if-goes_on_at.true) in
    (joins runs c.args.at c.args.run c.remove-next.result c.requires.runs c.requires.run e c.remove-next.ensures.value).next_is

pub with-requires-clause-joined : goal.with-requires-clause-joined
with-requires-clause-joined c =
    let runs = c.args.runs.now.items in
    let e : first_goes_on c.args.run (drop c.args.at runs) ≡ true = subst (λ l. first_goes_on c.args.run (drop c.args.at l) ≡ true) c.deref.ensures.value (sym c.goes_on_at.ensures ∙ c.if-goes_on_at.true) in
    (joins runs c.args.at c.args.run c.remove-next.result c.requires.runs c.requires.run e c.remove-next.ensures.value).goes

pub returns-then-goes_on_at-clause-joined : goal.returns-then-goes_on_at-clause-joined
returns-then-goes_on_at-clause-joined c =
    let runs = c.args.runs.now.items in
    let within : c.args.at ≤ length runs = subst (λ l. c.args.at ≤ length l) c.deref.ensures.value (omega (arith, c.requires.within, c.deref.ensures.len)) in
    let e : first_goes_on c.args.run (drop c.args.at runs) ≡ true = subst (λ l. first_goes_on c.args.run (drop c.args.at l) ≡ true) c.deref.ensures.value (sym c.goes_on_at.ensures ∙ c.if-goes_on_at.true) in
    let so = joins runs c.args.at c.args.run c.remove-next.result c.requires.runs c.requires.run e c.remove-next.ensures.value in
    let rest : drop c.args.at c.remove-next.new.self.items ≡ drop (c.args.at + 1) runs = ap (drop c.args.at) c.remove-next.ensures.by_index.2 ∙ behind_taken runs c.args.at (drop (c.args.at + 1) runs) within in
    rw (rest, c.with.ensures) so.apart

pub returns-then-goes_on_at-clause-places : goal.returns-then-goes_on_at-clause-places
returns-then-goes_on_at-clause-places c p =
    let runs = c.args.runs.now.items in
    let within : c.args.at ≤ length runs = subst (λ l. c.args.at ≤ length l) c.deref.ensures.value (omega (arith, c.requires.within, c.deref.ensures.len)) in
    let e : first_goes_on c.args.run (drop c.args.at runs) ≡ true = subst (λ l. first_goes_on c.args.run (drop c.args.at l) ≡ true) c.deref.ensures.value (sym c.goes_on_at.ensures ∙ c.if-goes_on_at.true) in
    let so = joins runs c.args.at c.args.run c.remove-next.result c.requires.runs c.requires.run e c.remove-next.ensures.value in
    let rest : drop c.args.at c.remove-next.new.self.items ≡ drop (c.args.at + 1) runs = ap (drop c.args.at) c.remove-next.ensures.by_index.2 ∙ behind_taken runs c.args.at (drop (c.args.at + 1) runs) within in
    rw (rest, c.with.ensures) (so.places p)

pub returns-clause-joined : goal.returns-clause-joined
returns-clause-joined c =
    let runs = c.args.runs.now.items in
    let e : first_goes_on c.args.run (drop c.args.at runs) ≡ false = subst (λ l. first_goes_on c.args.run (drop c.args.at l) ≡ false) c.deref.ensures.value (sym c.goes_on_at.ensures ∙ c.if-goes_on_at.false) in
    first_apart c.args.run (drop c.args.at runs) c.requires.run c.requires.behind e (drop_runs runs c.args.at c.requires.runs)
