use Rattle.std.proofs.Common.{◌≡◌, ◌∙◌, sym, ap, refl, subst, arith, [], ◌∷◌, Some, is_some, IsSomeAnd, length, length-append}
use Rattle.atomic_table.specs.Table.{rest}
use Rattle.domain_turn.specs.Kept.{resting}
use Rattle.domain_turn.specs.Plays.{MayPut, added, carried_by, share_in, with_put}
use Rattle.domain_turn.specs.Telling.{telling}
use Rattle.domain_turn.proofs.Seats.{some_and, some_of}
use Rattle.domain_turn.proofs.Steps.{passing, publishing}
use Rattle.domain_turn.proofs.table.Turn.put_back.Goals as goal

pub swap-before-requires : goal.swap-before-requires
swap-before-requires g c =
    let told = telling g.T.Told.history g.T.Told.lasting g.T.Told.rests g.T.Told.room g.T.Told.begun in
    let pass = c.args.pass.now in
    let put = some_and _ pass.seat.me.0.holds c.requires.put in
    let mine = some_of pass.seat.me.0.ticket (pass.queued ∙ ap is_some put.1) in
    let ex = c.exchange.ensures in
    let same = ap (λ m. m.0) ex.3 in
    let carried = ap (λ m. m.1) ex.3 ∙ ap (λ slots. (0, Some c.args.value) ∷ rest slots) (pass.carried ∙ ap carried_by put.1) in (
      ex.0 ∙ c.requires.here,
      (let five = c.args.self.now.sized.0 in omega (arith, five)),
      publishing told c.args.self.now.table.shared.key _ c.exchange.new.seat.id c.exchange.new.seat.me mine.0 put.0 c.args.value c.args.committed
          (subst (λ v. v.shares ≡ share_in v ∷ []) (sym same) pass.one)
          (ap (λ v. v.ticket) same ∙ mine.1)
          (ap (λ v. v.holds) same ∙ put.1)
          carried
          (subst (λ v. MayPut told (share_in v) put.0 c.args.value) (sym same) put.2)
          c.requires.committed,
    )

pub fetch_add-requires : goal.fetch_add-requires
fetch_add-requires g c =
    let told = telling g.T.Told.history g.T.Told.lasting g.T.Told.rests g.T.Told.room g.T.Told.begun in
    let pass = c.args.pass.now in
    let put = some_and _ pass.seat.me.0.holds c.requires.put in
    let mine = some_of pass.seat.me.0.ticket (pass.queued ∙ ap is_some put.1) in
    let ex = c.exchange.ensures in
    let same = ap (λ m. m.0) ex.3 in
    let carried = ap (λ m. m.1) ex.3 ∙ ap (λ slots. (0, Some c.args.value) ∷ rest slots) (pass.carried ∙ ap carried_by put.1) in
    let stored = (c.swap-before.ensures.2 mine.0 put.0 c.args.value (ap (λ v. v.ticket) same ∙ mine.1) (ap (λ v. v.holds) same ∙ put.1) carried).1 in (
      c.swap-before.ensures.0 ∙ ex.0 ∙ c.requires.here,
      (let five = c.args.self.now.sized.0 in omega (arith, five)),
      passing told c.args.self.now.table.shared.key _ c.swap-before.new.seat.id c.swap-before.new.seat.me mine.0 c.args.value c.args.self.now.sized.1
          (subst (λ m. m.0.shares ≡ share_in m.0 ∷ []) (sym stored) refl)
          (ap (λ m. m.0.ticket) stored)
          (ap (λ m. m.0.holds) stored)
          (ap (λ m. m.1) stored ∙ carried)
          put.2.rests,
    )

pub invariant_of-pass : goal.invariant_of-pass
invariant_of-pass g c =
    let told = telling g.T.Told.history g.T.Told.lasting g.T.Told.rests g.T.Told.room g.T.Told.begun in
    let pass = c.args.pass.now in
    let put = some_and _ pass.seat.me.0.holds c.requires.put in
    let mine = some_of pass.seat.me.0.ticket (pass.queued ∙ ap is_some put.1) in
    let ex = c.exchange.ensures in
    let same = ap (λ m. m.0) ex.3 in
    let carried = ap (λ m. m.1) ex.3 ∙ ap (λ slots. (0, Some c.args.value) ∷ rest slots) (pass.carried ∙ ap carried_by put.1) in
    let stored = (c.swap-before.ensures.2 mine.0 put.0 c.args.value (ap (λ v. v.ticket) same ∙ mine.1) (ap (λ v. v.holds) same ∙ put.1) carried).1 in
    let done = c.fetch_add.ensures.2 ∙ ap (λ m. (resting m.0.shares, [])) stored in
    let found = (c.swap-before.ensures.2 mine.0 put.0 c.args.value (ap (λ v. v.ticket) same ∙ mine.1) (ap (λ v. v.holds) same ∙ put.1) carried).0 in
    let share_same = ap (λ m. share_in m.0) done ∙ ap (λ v. with_put told (share_in v) put.0 c.args.value) same in
    let grown = ap length put.2.grown ∙ length-append (told.history put.0) (added told put.0 c.args.value) in
    let committed = c.requires.committed in
    let left_now = ap (λ s. s.left) share_same in
    let may_add = pass.may_add in
    record {
      numbered = pass.numbered ∙ sym (ap (λ s. s.number) share_same);
      may_add = omega (arith, found, grown, committed, left_now, may_add);
      one = subst (λ m. m.0.shares ≡ share_in m.0 ∷ []) (sym done) refl;
      carried = subst (λ m. m.1 ≡ carried_by m.0.holds) (sym done) refl;
      queued = subst (λ m. is_some m.0.ticket ≡ is_some m.0.holds) (sym done) refl;
    }

pub returns-clause-known : goal.returns-clause-known
returns-clause-known g c =
    let told = telling g.T.Told.history g.T.Told.lasting g.T.Told.rests g.T.Told.room g.T.Told.begun in
    let pass = c.args.pass.now in
    let put = some_and _ pass.seat.me.0.holds c.requires.put in
    let mine = some_of pass.seat.me.0.ticket (pass.queued ∙ ap is_some put.1) in
    let ex = c.exchange.ensures in
    let same = ap (λ m. m.0) ex.3 in
    let carried = ap (λ m. m.1) ex.3 ∙ ap (λ slots. (0, Some c.args.value) ∷ rest slots) (pass.carried ∙ ap carried_by put.1) in
    let stored = (c.swap-before.ensures.2 mine.0 put.0 c.args.value (ap (λ v. v.ticket) same ∙ mine.1) (ap (λ v. v.holds) same ∙ put.1) carried).1 in
    let done = c.fetch_add.ensures.2 ∙ ap (λ m. (resting m.0.shares, [])) stored in
    subst (λ o. IsSomeAnd o (λ taken. share_in c.fetch_add.new.seat.me.0 ≡ with_put told (share_in pass.seat.me.0) taken c.args.value)) (sym put.1)
    (ap (λ m. share_in m.0) done ∙ ap (λ v. with_put told (share_in v) put.0 c.args.value) same)
