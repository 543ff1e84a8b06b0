use Rattle.std.proofs.Common.{◌≡◌, ◌-◌, length, take, drop, arith}
use Rattle.std.proofs.lemmas.List.{length-drop, length-take-le}
use Rattle.log_ring.proofs.Overlays.{JoinsWell-joined}
use Rattle.meta_log.specs.Log.{Log, used}
use Rattle.meta_log.proofs.log.MetaLog.room.Goals as goal

pub returns-clause-place : goal.returns-clause-place
returns-clause-place c = λ change some few.
    let log : Log = c.args.self.now in
    let inside = c.self.inside in
    let items = inside.slots.items in
    let taken : length (take inside.end items) ≡ inside.end = length-take-le inside.end items (omega (arith, c.self.invariant.within, inside.slots.ok.0)) in
    let part = length-drop inside.logged (take inside.end items) in
    let same : length (drop inside.logged (take inside.end items)) ≡ length log.pending = λ i. length (c.self.view_is i).pending in
    let size : length log.pending ≡ inside.end - inside.logged = omega (arith, taken, part, same) in
    let most = (JoinsWell-joined change log.pending).most in
    let in_use : c.used.result ≡ used log = c.used.ensures.value in
    let first = c.saturating_sub.ensures in
    let second = c.saturating_sub-2.ensures in
    let least = c.min.ensures in
    record { group = omega arith; ring = omega arith }
