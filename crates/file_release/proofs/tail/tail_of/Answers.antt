use Rattle.std.proofs.Common.{◌≡◌, ◌∙◌, ◌+◌, ◌-◌, List, drop, length, get_or, ap, subst, arith}
use Rattle.fileset_files.specs.extent_maps.declared.run.Run.{Run}
use Rattle.fileset_files.specs.extent_maps.Runs.{place_of}
use Rattle.file_release.specs.Steps.{AreUnread}
use Rattle.file_release.proofs.Gapless.{run_of}
use Rattle.file_release.proofs.Tails.{read_below, read_tail}
use Rattle.file_release.proofs.tail.tail_of.Goals as goal

pub last_read-requires : goal.last_read-requires
last_read-requires c =
    let n = c.loop-i.i in
    let same = c.runs-runs.ensures.runs in
    let run = c.index-runs-i.result in
    run_of c.args.map.now c.runs-runs.ensures.longest n run (omega (arith, c.loop-i-test.true)) (omega (arith, c.loop-i.auto.i, ap length same)) (c.index-runs-i.is ∙ ap (λ (rs : List Run). get_or rs (n - 1) run) same)

pub tail_at-requires : goal.tail_at-requires
tail_at-requires c =
    let n = c.loop-i.i in
    let same = c.runs-runs.ensures.runs in
    let run = c.index-runs-i.result in
    let later : AreUnread c.args.from c.args.frozen (place_of c.args.own.now) (place_of (drop n c.args.map.now)) =
    subst (λ (rs : List Run). AreUnread c.args.from c.args.frozen (place_of c.args.own.now) (place_of (drop n rs))) same c.loop-i.invariant in
    let next : n ≡ n - 1 + 1 = omega (arith, c.loop-i-test.true) in
    read_below c.args.map.now c.runs-runs.ensures.longest (n - 1) run (omega (arith, c.loop-i-test.true, c.loop-i.auto.i, ap length same)) (c.index-runs-i.is ∙ ap (λ (rs : List Run). get_or rs (n - 1) run) same)
    c.args.from c.args.frozen (place_of c.args.own.now) c.in-Some.read c.end_of_map-end.result c.in-Some.ensures.some c.in-Some.ensures.behind
    (subst (λ k. AreUnread c.args.from c.args.frozen (place_of c.args.own.now) (place_of (drop k c.args.map.now))) next later) c.end_of_map-end.ensures.last c.end_of_map-end.ensures.behind

pub returns-in-Some : goal.returns-in-Some
returns-in-Some c =
    let n = c.loop-i.i in
    let same = c.runs-runs.ensures.runs in
    let run = c.index-runs-i.result in
    let later : AreUnread c.args.from c.args.frozen (place_of c.args.own.now) (place_of (drop n c.args.map.now)) =
    subst (λ (rs : List Run). AreUnread c.args.from c.args.frozen (place_of c.args.own.now) (place_of (drop n rs))) same c.loop-i.invariant in
    let next : n ≡ n - 1 + 1 = omega (arith, c.loop-i-test.true) in
    read_tail c.args.map.now c.runs-runs.ensures.longest (n - 1) run (omega (arith, c.loop-i-test.true, c.loop-i.auto.i, ap length same)) (c.index-runs-i.is ∙ ap (λ (rs : List Run). get_or rs (n - 1) run) same)
    c.args.from c.args.frozen (place_of c.args.own.now) c.in-Some.read c.end_of_map-end.result c.in-Some.ensures.some c.in-Some.ensures.behind
    (subst (λ k. AreUnread c.args.from c.args.frozen (place_of c.args.own.now) (place_of (drop k c.args.map.now))) next later) c.end_of_map-end.ensures.last c.end_of_map-end.ensures.behind
    c.tail_at.result c.tail_at.ensures.last c.tail_at.ensures.before
