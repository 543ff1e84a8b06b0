use Rattle.std.proofs.Common.{ℕ, List, subst, sym}
use Rattle.plain_program.proofs.ExtentLemmas.{AreInRuns, refuted, shown, shown_in_runs}
use Rattle.plain_program.specs.Members.{members_of}
use Rattle.plain_program.proofs.extents.are_shown.Goals as goal

pub returns-then-not-are_in_runs : goal.returns-then-not-are_in_runs
returns-then-not-are_in_runs c =
    refuted c.are_in_runs.result c.if-not-are_in_runs.true c.are_in_runs.ensures
    (λ shows. subst (λ (l : List ℕ). AreInRuns l c.args.runs.now) (sym c.requires.numbers) (shown_in_runs (members_of c.args.members.now) c.args.pages.now c.args.runs.now shows))

pub returns : goal.returns
returns c =
    let runs = c.args.runs.now in
    let in_runs = subst (λ (l : List ℕ). AreInRuns l runs) c.requires.numbers (c.are_in_runs.ensures.0 (cc)) in (
      λ apart. shown (members_of c.args.members.now) c.args.pages.now runs in_runs (c.have_pages.ensures.0 (cc)) (c.are_in_order.ensures.0 (cc)) (c.are_on_members.ensures.0 (cc)) (c.are_apart.ensures.0 apart),
      λ shows. c.are_apart.ensures.1 shows.apart,
    )
