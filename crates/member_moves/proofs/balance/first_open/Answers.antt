use Rattle.std.proofs.Common.{◌∙◌, ◌+◌, arith, sym, subst}
use Rattle.std.proofs.lemmas.Bool.{true≢false}
use Rattle.member_moves.proofs.Found.{IsFound, found_all, found_before, found_behind, found_closed, none_found}
use Rattle.member_moves.proofs.balance.first_open.Goals as goal
use Rattle.member_moves.proofs.balance.first_open.Goals.{then-is_open+then-precedes_all, else-is_open, else-is_open-via-then-is_open+else-precedes_all, else-is_open-via-else-is_open}

pub loop-count-preserved : goal.loop-count-preserved
loop-count-preserved c =
    let next = c.loop-count.count-index + 1 in
    let found = IsFound c.args.end c.args.counts.now next in
    elim c.if-is_open.branch [
      | then-is_open+then-precedes_all w ↦
          subst found (sym w.first-is)
          (found_before c.args.end c.args.counts.now c.loop-count.count-index c.count-item.result
          c.loop-count.first c.requires c.loop-count-test.true c.count-item.is
          c.loop-count.invariant (c.is_open.ensures.0 w.if-is_open.true)
          (w.precedes_all.ensures.before w.if-precedes_all.true))
      | else-is_open w ↦
          subst found (sym w.first-is)
          elim w.else-is_open.branch [
            | else-is_open-via-then-is_open+else-precedes_all w' ↦
                found_behind c.args.end c.args.counts.now c.loop-count.count-index c.count-item.result
                c.loop-count.first c.loop-count-test.true c.count-item.is
                c.loop-count.invariant (w'.precedes_all.ensures.behind w'.if-precedes_all.false)
                w'.precedes_all.result w'.if-precedes_all.false w'.precedes_all.ensures.any
            | else-is_open-via-else-is_open w' ↦
                found_closed c.args.end c.args.counts.now c.loop-count.count-index c.count-item.result
                c.loop-count.first c.loop-count-test.true c.count-item.is
                c.loop-count.invariant
                (λ open_one. true≢false (sym (c.is_open.ensures.1 open_one) ∙ w'.if-is_open.false))
          ]
    ]

pub returns-clause-first : goal.returns-clause-first
returns-clause-first c =
    found_all c.args.end c.args.counts.now c.loop-count.count-index c.loop-count.first (omega arith)
    c.loop-count.invariant

pub returns-clause-none : goal.returns-clause-none
returns-clause-none c =
    none_found c.args.end c.args.counts.now c.loop-count.count-index c.loop-count.first (omega arith)
    c.loop-count.invariant
