use Rattle.std.proofs.Common.{◌≡◌, ◌∙◌, sym, arith}
use Rattle.std.proofs.lemmas.Option.{same_Some}
use Rattle.page_cache.proofs.Moves.{some_none}
use Rattle.page_cache.proofs.First.{none_waits, waits_first}
use Rattle.page_cache.proofs.cache.PageCache.next_flush.Goals as goal
use Rattle.page_cache.proofs.cache.PageCache.next_flush.Goals.{in_default-via-in-Some+else-group-durable, in_default-via-in_default}

pub returns-in_err-home : goal.returns-in_err-home
returns-in_err-home c = rw c.from_residual.ensures (λ home group is.
    let cache = c.args.self.now in
    let none = sym c.first.ensures.value ∙ c.in_err-home.was in
    absurd (none_waits cache.frames.entries cache.dirty.places.items cache.sound.queued none home group is))

pub returns-in-Some : goal.returns-in-Some
returns-in-Some c =
    let cache = c.args.self.now in
    let is = sym c.first.ensures.value ∙ c.in_ok-home.was in
    let first = waits_first cache.frames.entries cache.dirty.places.items cache.sound.queued cache.dirty.rising c.in_ok-home.home c.in_ok-home.ensures.width is in
    let same : first.0 ≡ c.in-Some.group = same_Some _ _ (sym first.1.has ∙ sym c.in-Some.ensures.value) in
    (first.0, first.1, omega (arith, same, c.if-group-durable.true))

pub returns-in_default : goal.returns-in_default
returns-in_default c home group is =
    let cache = c.args.self.now in
    let front = sym c.first.ensures.value ∙ c.in_ok-home.was in
    let first = waits_first cache.frames.entries cache.dirty.places.items cache.sound.queued cache.dirty.rising c.in_ok-home.home c.in_ok-home.ensures.width front in
    let later = first.1.first home group is in
    elim c.in_default.branch [
      | in_default-via-in-Some+else-group-durable w ↦
          let same : first.0 ≡ w.in-Some.group = same_Some _ _ (sym first.1.has ∙ sym w.in-Some.ensures.value) in
          grind (arith, same, later, w.if-group-durable.false)
      | in_default-via-in_default w ↦ absurd (some_none _ (w.in_default.ensures.value ∙ first.1.has))
    ]
