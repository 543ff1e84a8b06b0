use Rattle.std.proofs.Common.{◌≡◌, ◌∙◌, ap, sym, subst, arith, length, length-append, true, List}
use Rattle.fileset_values.specs.declared.entry.Entry.{Entry}
use Rattle.domain_turn.specs.Ledgers.{counts_from}
use Rattle.domain_turn.proofs.Counting.{counts_on}
use Rattle.domain_turn.proofs.ledger.Ledger.add.Goals as goal

pub invariant_of-self : goal.invariant_of-self
invariant_of-self g c =
    let old = c.args.self.now in
    let items = c.in-Ok.ensures.items in
    let long = ap length items ∙ length-append old.entries.items _ in
    let numbered = old.numbered in
    let lasts = old.lasts in
    record {
      counted = subst (λ (entries : List Entry). counts_from g.N.Named.start entries ≡ true) (sym items) (counts_on g.N.Named.start old.entries.items _ old.counted numbered);
      numbered = omega (arith, long, numbered);
      lasts = omega (arith, long, lasts);
    }
