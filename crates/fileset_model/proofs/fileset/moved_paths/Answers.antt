use Rattle.std.proofs.Common.{◌≡◌, ℕ, ◌+◌, ◌-◌, ◌<◌, Bool, true, false, not, List, length, drop, IsTrue, refl, sym, ap, subst, ◌∙◌, arith}
use Rattle.std.specs.FinMap.{entries}
use Rattle.std.specs.FinMap.Entries.{is_sorted, put}
use Rattle.fileset_values.specs.Orders.{Path, path_cmp}
use Rattle.fileset_model.specs.Paths.{same_path}
use Rattle.fileset_model.specs.Apply.{moved_path}
use Rattle.fileset_model.proofs.MoveLemmas.{moved_map, moved_map-none, moved_map-skip, moved_map-step, sorted_entries}
use Rattle.fileset_model.proofs.fileset.moved_paths.Goals as goal

differ : (b r : Bool) → r ≡ not b → r ≡ true → b ≡ false
differ true r e h = sym h ∙ e
differ false r e h = refl

agree : (b r : Bool) → r ≡ not b → r ≡ false → b ≡ true
agree true r e h = refl
agree false r e h = sym h ∙ e

pub loop-i-init : goal.loop-i-init
loop-i-init c = c.new-moved.ensures.items ∙ moved_map-none c.args.from.now c.args.to.now c.args.paths.now

pub put-requires : goal.put-requires
put-requires c =
    subst (λ (l : List (Path × ℕ)). IsTrue (is_sorted path_cmp l)) (sym c.loop-i.invariant) (sorted_entries (moved_map c.args.from.now c.args.to.now (drop c.loop-i.i c.args.paths.now)))

pub loop-i-preserved-in_ok-put : goal.loop-i-preserved-in_ok-put
loop-i-preserved-in_ok-put c =
    let from = c.args.from.now in
    let to = c.args.to.now in
    let es = c.args.paths.now in
    let n = c.loop-i.i - 1 in
    let e = c.index-paths-i.result in
    let within : n < length es = omega arith in
    let next : n + 1 ≡ c.loop-i.i = omega arith in
    c.in_ok-put.ensures.ok
    ∙ ap (λ (p : Path). put path_cmp p e.1 c.loop-i.moved.items) c.in_ok-exchanged.ensures
    ∙ ap (put path_cmp (moved_path from to e.0) e.1) (c.loop-i.invariant ∙ ap (λ k. entries (moved_map from to (drop k es))) (sym next))
    ∙ moved_map-step from to es n e within c.index-paths-i.is (differ (same_path e.0 to) c.ne.result c.ne.ensures c.if-ne.true)

pub loop-i-preserved : goal.loop-i-preserved
loop-i-preserved c =
    let from = c.args.from.now in
    let to = c.args.to.now in
    let es = c.args.paths.now in
    let n = c.loop-i.i - 1 in
    let e = c.index-paths-i.result in
    let within : n < length es = omega arith in
    let next : n + 1 ≡ c.loop-i.i = omega arith in
    c.loop-i.invariant
    ∙ ap (λ k. entries (moved_map from to (drop k es))) (sym next)
    ∙ moved_map-skip from to es n e within c.index-paths-i.is (agree (same_path e.0 to) c.ne.result c.ne.ensures c.if-ne.false)
